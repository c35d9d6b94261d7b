-- What is written of one value, and laws of its loop: the numbers so far stand from their place on, and those that are left are still to be read.
use Rattle.std.specs.Prelude.{ℕ, ◌+◌, ◌*◌, ◌-◌, ◌≤◌, ◌<◌, ◌≡◌, List, [], ◌∷◌, ◌++◌, length, get_or, set, take}
use Rattle.std.proofs.Common.{arith, add-one, ◌∙◌, length-append, length-take, length-take-le, length-drop}
use Rattle.std.proofs.Common.{drop_of_length-le, take-suc}
use Rattle.std.proofs.Math.Path.{refl, sym, ap}
use Rattle.std.proofs.Math.ListN.{drop}
use Rattle.std.proofs.Math.Seq.{take-length}
use Rattle.theory.proofs.Basics.{drop-mem, drop-get_d, drop-next, drop-bound}
use Rattle.lines.specs.Basics.{All, never}
use Rattle.sheet.specs.Sheet.{newline, digit0, in_front}
use Rattle.sheet.specs.Text.{max_word, Value, bad, has, value_of, prefixed, rest_from}
use Rattle.sheet.specs.Text.Digits.{rest_at}
use Rattle.sheet.specs.Text.Rooms.{front_more}
use Rattle.sheet.specs.Text.Rests.{rest_digit, rest_lf, rest_other, rest_none, rest-above, rest-value}

-- bytes begin with a value in its form, whose numbers, which are some, are of 16 bits and have room in a slice
pub record Puttable (s : List ℕ) (room : ℕ) : Type 0 where
  pub numbers : List ℕ
  pub rest : List ℕ
  pub value : value_of s ≡ has numbers rest
  pub some_numbers : 1 ≤ length numbers
  pub small : All (λ x. x ≤ max_word) numbers
  pub fits : length numbers ≤ room

-- the value's numbers are written to the front of a slice
pub record Put (s before after : List ℕ) : Type 0 where
  pub numbers : List ℕ
  pub rest : List ℕ
  pub value : value_of s ≡ has numbers rest
  pub written : after ≡ in_front numbers before

-- so many numbers are written, and of the next number the digits so far say v
pub record Putting (s before out : List ℕ) (i n v : ℕ) : Type 0 where
  pub given : Puttable s (length before)
  pub left : rest_from v (drop i s) ≡ has (drop n given.numbers) given.rest
  pub held : out ≡ in_front (take n given.numbers) before

-- at the start
pub putting_start : (s before : List ℕ) → Puttable s (length before) → Putting s before before 0 0 0
putting_start s before g = record {
  given = g;
  left = rest-value s g.numbers g.rest g.some_numbers g.value;
  held = refl;
}

module _ {s before out : List ℕ} {i n v : ℕ} (p : Putting s before out i n v) where
  -- the number that is being read is one of the value's, and no less than v
  record Current : Type 0 where
    number : ℕ
    others : List ℕ
    is : drop n p.given.numbers ≡ number ∷ others
    above : v ≤ number

  current : Current
  current =
      let (x, xs, e, l) = rest-above v (drop i s) (drop n p.given.numbers) p.given.rest p.left in
      record { number = x; others = xs; is = e; above = l }

  -- there is room for it
  pub putting_room : n < length p.given.numbers
  putting_room = let b = drop-bound n p.given.numbers current.is in omega arith

  -- what its digits so far say is of 16 bits
  pub putting_small : v ≤ max_word
  putting_small =
      let c = current in
      let a = c.above in
      let b = p.given.small c.number (drop-mem n p.given.numbers c.number c.others c.is) in omega arith

  -- the slice is as long as it was
  pub putting_length : length out ≡ length before
  putting_length =
      let a = putting_room in
      let b = p.given.fits in
      let c = ap (λ (x : List ℕ). length x) p.held in
      simp (length-append, length-take, length-drop) at c ∙ omega arith

  -- bytes are left
  pub putting_some : length s ≤ i → ⊥
  putting_some h =
      let e : bad ≡ has (drop n p.given.numbers) p.given.rest = sym (ap (rest_from v) (drop_of_length-le s h) ∙ rest_none v) ∙ p.left in never cc

  module _ (h : i < length s) where
    -- one digit more
    pub putting_digit : (d : ℕ) → d + digit0 ≡ get_or s i 0 → Putting s before out (i + 1) n (10 * v + d)
    putting_digit d e = record {
      given = p.given;
      left =
          ap (λ (x : ℕ). rest_from x (drop (i + 1) s)) (let z : 10 * v + d ≡ 10 * v + (get_or s i 0 - digit0) = omega arith in z) ∙
          sym (rest_digit v (get_or s i 0) (drop (i + 1) s) (omega arith)) ∙ ap (rest_from v) (sym (rest_at s i h)) ∙ p.left;
      held = p.held;
    }

    -- the number is written
    put_one : v ≡ current.number → set out n v ≡ in_front (take (n + 1) p.given.numbers) before
    put_one e =
        let ns : List ℕ = p.given.numbers in
        let a = putting_room in
        let b = p.given.fits in
        let l : length (take n ns) ≡ n = length-take-le n ns (omega arith) in
        let g : get_or ns n 0 ≡ v = drop-get_d n ns current.number current.others current.is ∙ sym e in
        (λ j. set (p.held j) (sym l j) v) ∙ front_more before (take n ns) v (omega arith) ∙
        ap (λ (x : ℕ). in_front (take n ns ++ (x ∷ [])) before) (sym g) ∙
        ap (λ (x : List ℕ). in_front x before) (sym (take-suc ns n 0 a)) ∙
        ap (λ (k : ℕ). in_front (take k ns) before) (sym (add-one n))

    -- a byte that ends a number, but not the line
    pub putting_next : get_or s i 0 < digit0 → (get_or s i 0 ≡ newline → ⊥) →
        Putting s before (set out n v) (i + 1) (n + 1) 0
    unfolding prefixed
    putting_next l m = by (rest_from 0 (drop (i + 1) s)) refl
      where
        by : (u : Value) → rest_from 0 (drop (i + 1) s) ≡ u → Putting s before (set out n v) (i + 1) (n + 1) 0
        by bad q =
            let e : bad ≡ has (drop n p.given.numbers) p.given.rest =
            sym (ap (rest_from v) (rest_at s i h) ∙ rest_other v (get_or s i 0) (drop (i + 1) s) l m ∙ ap (prefixed (v ∷ [])) q) ∙ p.left in never cc
        by (has ys r) q =
            let e : has (v ∷ ys) r ≡ has (drop n p.given.numbers) p.given.rest =
            sym (ap (rest_from v) (rest_at s i h) ∙ rest_other v (get_or s i 0) (drop (i + 1) s) l m ∙ ap (prefixed (v ∷ [])) q) ∙ p.left in
            let f : drop n p.given.numbers ≡ v ∷ ys = cc in
            let g : r ≡ p.given.rest = cc in
            let k : v ∷ ys ≡ current.number ∷ current.others = sym f ∙ current.is in
            let z : drop (n + 1) p.given.numbers ≡ ys = ap (λ (x : ℕ). drop x p.given.numbers) (add-one n) ∙ drop-next n p.given.numbers f in
            record {
              given = p.given;
              left = q ∙ (λ j. has (sym z j) (g j));
              held = put_one (cc);
            }

    -- the LF
    pub putting_lf : get_or s i 0 ≡ newline → Put s before (set out n v)
    putting_lf e =
        let f : has (v ∷ []) (drop (i + 1) s) ≡ has (drop n p.given.numbers) p.given.rest =
        sym (ap (rest_from v) (rest_at s i h) ∙ rest_lf v (get_or s i 0) (drop (i + 1) s) e) ∙ p.left in
        let g : drop n p.given.numbers ≡ v ∷ [] = cc in
        let k : v ∷ [] ≡ current.number ∷ current.others = sym g ∙ current.is in
        let c : n + 1 ≡ length p.given.numbers =
        let a = ap (λ (x : List ℕ). length x) g in let b = length-drop n p.given.numbers in omega arith in
        record {
          numbers = p.given.numbers;
          rest = p.given.rest;
          value = p.given.value;
          written =
              put_one (cc) ∙ ap (λ (k : ℕ). in_front (take k p.given.numbers) before) c ∙
              ap (λ (x : List ℕ). in_front x before) (take-length p.given.numbers);
        }
