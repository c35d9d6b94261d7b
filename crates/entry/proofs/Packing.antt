-- What the reader, the check and the judge tell has room in one number.
use Rattle.std.proofs.Common.{ℕ, List, Result, arith}
use Rattle.sheet.specs.Reads.{ReadsInto, answer_of}
use Rattle.sheet.specs.declared.ReadError.{ReadError}
use Rattle.table.specs.Check.{Check, Checks}
use Rattle.judge.specs.declared.Judgement.{Judgement}
use Rattle.judge.specs.Judge.{handed, handed_read}
use Rattle.judge.specs.Judge.Into.{JudgesInto}
use Rattle.entry.specs.Packed.{Fits}
use Rattle.entry.specs.Small.{read_small, check_small, judge_small}

-- the reader's fits
pub read_fits : {bs before after : List ℕ} (t : Result ℕ ReadError) → ReadsInto bs before (answer_of t) after → Fits (handed_read t)
read_fits t h = let s = read_small h in (s.0, s.1, omega arith)

-- the check's fits
pub check_fits : {ns : List ℕ} (c : Check) → Checks ns c → Fits (handed c)
check_fits c h = let s = check_small h in (s.0, s.1, omega arith)

-- the judge's fits
pub judge_fits : {ns tail before after : List ℕ} {j : Judgement} → JudgesInto ns tail before j after → Fits j
judge_fits h = let s = judge_small h.judgement in (s.0.0, s.0.1, s.1)
