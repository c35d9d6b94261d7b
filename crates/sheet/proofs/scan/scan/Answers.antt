use Rattle.std.proofs.Common.{◌≡◌, ◌≤◌, ◌+◌, ◌-◌, ℕ, List, length, take, drop, refl, sym, ◌∙◌, subst, arith}
use Rattle.std.proofs.Common.{length-set, length-append, length-take, length-drop}
use Rattle.std.proofs.lemmas.Bool.Decides.{nat_tests}
use Rattle.std.specs.Prelude.{Ok, Err}
use borrow.Rule.Slice.PartMut.{put_mid, post_of}
use Rattle.sheet.specs.declared.ReadError.{ReadError}
use Rattle.sheet.specs.Scan.Scanning.{Found, scanning_start, scanning_end, scanning_missing}
use Rattle.sheet.specs.Scan.Scanning.{scanning_room, scanning_refused, scanning_part, scanning_unfit, scanning_next}
use Rattle.sheet.proofs.scan.scan.Goals as goal

-- the array once the part behind a place was written
abbrev written : ℕ → List ℕ → List ℕ → List ℕ
written a kept held = put_mid a (length kept - a) kept held

-- it is as long as it was
long : (a : ℕ) (kept held : List ℕ) → a ≤ length kept → length held ≡ length (take (length kept - a) (drop a kept)) →
    length (written a kept held) ≡ length kept
long a kept held h e =
    simp (length-append, length-take, length-drop) (omega (arith, simp (length-take, length-drop) at e))

pub loop-rest-init : goal.loop-rest-init
loop-rest-init c =
    let s = c.start-shape in
    let i = scanning_start c.args.bytes.now s.result _ c.args.kept.now s.ensures refl c.requires.1 in
    record { long = refl; lines = i }

-- a line is refused
refused : (c : goal.After-at) →
    Found c.args.bytes.now (Err c.at.result) (written (c.loop-rest.w + 1) c.loop-rest.kept c.due_line.new.kept)
refused c =
    let l = c.loop-rest in
    let k = written (l.w + 1) l.kept c.due_line.new.kept in
    let h : 1 ≤ length l.rest.now = grind (arith, nat_tests) in
    subst (λ (e : ReadError). Found c.args.bytes.now (Err e) k) (sym c.at.ensures)
    (scanning_refused l.invariant.lines h c.in-Err.e k c.in-Err.ensures)

pub returns-in-Err-clause-value : goal.returns-in-Err-clause-value
returns-in-Err-clause-value c = (refused c).0

pub returns-in-Err-clause-kept : goal.returns-in-Err-clause-kept
returns-in-Err-clause-kept c = (refused c).1

-- the numbers of a line do not fit
unfit : (c : goal.Then-not-line_fits) →
    Found c.args.bytes.now (Err (ReadError.Range c.loop-rest.line))
    (written (c.loop-rest.w + 1) c.loop-rest.kept c.due_line.new.kept)
unfit c =
    let l = c.loop-rest in
    let s = l.invariant.lines in
    let k = written (l.w + 1) l.kept c.due_line.new.kept in
    let m = post_of (l.w + 1) (length l.kept - (l.w + 1)) l.kept in
    let h : 1 ≤ length l.rest.now = grind (arith, nat_tests) in
    let r = scanning_room s h in
    let g = long (l.w + 1) l.kept c.due_line.new.kept (omega (arith, r.0)) c.due_line.auto.kept in
    scanning_unfit s h c.in-Ok.ensures k m refl g (scanning_part s h c.in-Ok.ensures k m refl g)
    (sym c.line_fits.ensures ∙ c.if-not-line_fits.true)

pub returns-then-not-line_fits-clause-value : goal.returns-then-not-line_fits-clause-value
returns-then-not-line_fits-clause-value c = (unfit c).0

pub returns-then-not-line_fits-clause-kept : goal.returns-then-not-line_fits-clause-kept
returns-then-not-line_fits-clause-kept c = (unfit c).1

pub loop-rest-preserved : goal.loop-rest-preserved
loop-rest-preserved c =
    let l = c.loop-rest in
    let s = l.invariant.lines in
    let k = written (l.w + 1) l.kept c.due_line.new.kept in
    let m = post_of (l.w + 1) (length l.kept - (l.w + 1)) l.kept in
    let h : 1 ≤ length l.rest.now = grind (arith, nat_tests) in
    let r = scanning_room s h in
    let g = long (l.w + 1) l.kept c.due_line.new.kept (omega (arith, r.0)) c.due_line.auto.kept in
    record {
      long = length-set k l.w c.in-Ok.got.0 ∙ g ∙ l.invariant.long;
      lines = scanning_next s h c.in-Ok.ensures k m refl g (scanning_part s h c.in-Ok.ensures k m refl g)
          (sym c.line_fits.ensures ∙ c.if-not-line_fits.false) c.take_in-shape.ensures.value
          c.take_in-shape.ensures.lengths_after;
    }

-- all lines were read
ended : (c : goal.In-End) → Found c.args.bytes.now (Ok c.loop-rest.w) c.loop-rest.kept
ended c =
    let h : length c.loop-rest.rest.now ≡ 0 = grind (arith, nat_tests) in
    scanning_end c.loop-rest.invariant.lines h c.in-End.is

pub returns-in-End-clause-value : goal.returns-in-End-clause-value
returns-in-End-clause-value c = (ended c).0

pub returns-in-End-clause-kept : goal.returns-in-End-clause-kept
returns-in-End-clause-kept c = (ended c).1

pub returns-in_default : goal.returns-in_default
returns-in_default c =
    let h : length c.loop-rest.rest.now ≡ 0 = grind (arith, nat_tests) in
    let f = scanning_missing c.loop-rest.invariant.lines h c.in_default.not-End in
    record { value = f.0; kept = f.1 }
