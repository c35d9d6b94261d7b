-- `run` meets its contract: where the write went well, the lines of the judgement of what was read were written.
use Rattle.std.proofs.Common.{◌≡◌, rules, take, length, arith, ◌∙◌, ap, sym}
use Rattle.std.proofs.lemmas.List.{take_at}
use Rattle.std.proofs.lemmas.Result.{on_ok_weaker}
use Rattle.input.specs.Shown.{three_lines}
use Rattle.input.proofs.program.run.Goals as goal

pub returns : goal.returns
returns g c =
    let count = c.in_ok-count.count in
    let got = take count c.read_full.new.buf in
    let said = c.judge-judgement.result in
    let end = c.three_lines-end.result in
    let read = c.in_ok-count.ensures in
    let text = c.three_lines-end.ensures in
    let size : length c.read_full.new.buf ≡ g.row.SIZE = search rules in
    let lines : take end c.three_lines-end.new.out ≡ three_lines said =
    ap (take end) text.text ∙ take_at (three_lines said) _ end (sym text.end) in
    on_ok_weaker c.write_all.result (λ w. record {
      bytes = got;
      judgement = said;
      few = omega (arith, read.bound);
      read = read.bytes;
      all = λ l. read.end (omega (arith, read.bound));
      judged = search rules;
      written = rw lines at w;
    }) c.write_all.ensures.bytes
