-- The numbers of a value, one line, and the first line of bytes: each is read exactly as it is printed.
use Rattle.std.specs.Prelude.{ℕ, ◌≤◌, ◌<◌, ◌≡◌, refl, Bool, true, false, List, [], ◌∷◌, ◌++◌, map, length, eqb, leb}
use Rattle.std.proofs.Common.{arith, sym, ap, ◌∙◌, append_assoc, length-append, eqb-true, eq-eqb, ne_eqb, leb-true, le-leb}
use Rattle.std.proofs.Math.Option.{Option, none, some}
use mathlib.Core.List.Memᴰ.{head as Mem·head}
use mathlib.Core.List.Memᴰ.{tail as Mem·tail}
use Rattle.std.proofs.lemmas.Bool.{eqb-false}
use Rattle.theory.proofs.Basics.{both}
use Rattle.lines.specs.Lines.{Due, key, is_end, Cut}
use Rattle.lines.specs.Lines.Fits.{all}
use Rattle.lines.specs.Ranges.Tests.{two, within-says}
use Rattle.sheet.specs.Sheet.{newline, space, equals, digit0, digit9, is_digit, numeral, before, words, each_numeral, numerals, after, line, due_line, cut_line, digits, unwords, print_numbers, print_line, Short, NoLf}
use Rattle.sheet.specs.Sheet.Numerals.{all_append, digits_are, digits-some, numeral-digits, digits-numeral, numeral-short}
use Rattle.lines.specs.Basics.{all_nil, all_cons, never, impossible}

-- ---- words

before-some : (c : ℕ) (ws : List (List ℕ)) → (w : List ℕ) × (vs : List (List ℕ)) × (before c ws ≡ w ∷ vs)
unfolding before
before-some c [] = (c ∷ [], [], refl)
before-some c (w ∷ ws) = (c ∷ w, ws, refl)

-- there is a word, be it empty
pub words-some : (cs : List ℕ) → (w : List ℕ) × (ws : List (List ℕ)) × (words cs ≡ w ∷ ws)
unfolding words
words-some [] = ([], [], refl)
words-some (c ∷ cs) = at (eqb c space) refl
  where
    at : (b : Bool) → eqb c space ≡ b → (w : List ℕ) × (ws : List (List ℕ)) × (words (c ∷ cs) ≡ w ∷ ws)
    at true p = ([], words cs, rw (p, words) refl)
    at false p = let (w, ws, q) = before-some c (words cs) in (w, ws, rw (p, words) q)

unwords-space : (w : List ℕ) (ws : List (List ℕ)) → unwords ([] ∷ (w ∷ ws)) ≡ space ∷ unwords (w ∷ ws)
unfolding unwords
unwords-space w ws = refl

unwords-before : (c : ℕ) (w : List ℕ) (ws : List (List ℕ)) → unwords (before c (w ∷ ws)) ≡ c ∷ unwords (w ∷ ws)
unfolding unwords before
unwords-before c w [] = refl
unwords-before c w (v ∷ ws) = refl

-- the words of bytes, joined again, are these bytes
pub unwords-words : (cs : List ℕ) → unwords (words cs) ≡ cs
unfolding words unwords
unwords-words [] = refl
unwords-words (c ∷ cs) = at (eqb c space) refl (words-some cs) (unwords-words cs)
  where
    at : (b : Bool) → eqb c space ≡ b → (w : List ℕ) × (ws : List (List ℕ)) × (words cs ≡ w ∷ ws) → unwords (words cs) ≡ cs → unwords (words (c ∷ cs)) ≡ c ∷ cs
    at true p (w, ws, q) ih =
        rw (p, words) (rw q (unwords-space w ws ∙ (λ i. sym (eqb-true c space p) i ∷ (ap unwords (sym q) ∙ ih) i)))
    at false p (w, ws, q) ih = rw (p, words) (rw q (unwords-before c w ws ∙ ap (λ (x : List ℕ). c ∷ x) (ap unwords (sym q) ∙ ih)))

-- a digit is no space
pub digit_word : (c : ℕ) → is_digit c ≡ true → eqb c space ≡ false
digit_word c e = let (a, b) = within-says digit0 digit9 c e in ne_eqb c space (omega arith)

-- digits alone are one word
words-digits : (w : List ℕ) → all is_digit w ≡ true → words w ≡ w ∷ []
unfolding words all before
words-digits [] e = refl
words-digits (c ∷ cs) e =
    let (a, b) = both (is_digit c) (all is_digit cs) e in
    rw (digit_word c a, words) (rw (words-digits cs b) refl)

-- digits before a space are the first word
words-first : (w cs : List ℕ) → all is_digit w ≡ true → words (w ++ (space ∷ cs)) ≡ w ∷ words cs
unfolding words all before
words-first [] cs e = refl
words-first (c ∷ w) cs e =
    let (a, b) = both (is_digit c) (all is_digit w) e in
    rw (digit_word c a, words) (rw (words-first w cs b) refl)

-- ---- the numbers of a value

rest_short : {n : ℕ} {ns : List ℕ} → Short (n ∷ ns) → Short ns
rest_short h x m = h x (Mem·tail m)

words-numbers : (n : ℕ) (ns : List ℕ) → Short (n ∷ ns) → words (unwords (map digits (n ∷ ns))) ≡ map digits (n ∷ ns)
unfolding unwords
words-numbers n [] h = words-digits (digits n) (digits_are n (h n (Mem·head refl)))
words-numbers n (m ∷ ns) h =
    words-first (digits n) (unwords (map digits (m ∷ ns))) (digits_are n (h n (Mem·head refl))) ∙
    ap (λ (x : List (List ℕ)). digits n ∷ x) (words-numbers m ns (rest_short h))

each_numbers : (ns : List ℕ) → Short ns → each_numeral (map digits ns) ≡ some ns
unfolding each_numeral
each_numbers [] h = refl
each_numbers (n ∷ ns) h = rw (numeral-digits n (h n (Mem·head refl)), each_numeral) (rw (each_numbers ns (rest_short h)) refl)

numbers_each : (ws : List (List ℕ)) (ns : List ℕ) → each_numeral ws ≡ some ns → map digits ns ≡ ws
unfolding each_numeral
numbers_each [] ns e = let q : [] ≡ ns = cc in rw (← q) refl
numbers_each (w ∷ ws) ns e = at (numeral w) refl (each_numeral ws) refl (numbers_each ws)
  where
    at : (o : Option ℕ) → numeral w ≡ o → (q : Option (List ℕ)) → each_numeral ws ≡ q → ((ms : List ℕ) → each_numeral ws ≡ some ms → map digits ms ≡ ws) → map digits ns ≡ w ∷ ws
    at none p q r ih = let h : ◌≡◌ {A = Option (List ℕ)} none (some ns) = rw (p, each_numeral) at e in never cc
    at (some n) p none r ih = let h : ◌≡◌ {A = Option (List ℕ)} none (some ns) = rw (p, each_numeral, r) at e in never cc
    at (some n) p (some ms) r ih =
        let h : ◌≡◌ {A = Option (List ℕ)} (some (n ∷ ms)) (some ns) = rw (p, each_numeral, r) at e in
        let q : n ∷ ms ≡ ns = cc in
        rw (← q) (λ i. digits-numeral w n p i ∷ ih ms r i)

numerals-some : (v : List ℕ) → 1 ≤ length v → numerals v ≡ each_numeral (words v)
unfolding numerals
numerals-some [] h = impossible (omega arith)
numerals-some (c ∷ cs) h = refl

-- printed numbers take at least a byte each
pub numbers_long : (ns : List ℕ) → length ns ≤ length (print_numbers ns)
unfolding print_numbers unwords
numbers_long [] = omega arith
numbers_long (n ∷ []) = digits-some n
numbers_long (n ∷ (m ∷ ns)) = let h = numbers_long (m ∷ ns) in let k = digits-some n in simp length-append (omega arith)

-- printed numbers are read
pub numerals-print : (ns : List ℕ) → Short ns → numerals (print_numbers ns) ≡ some ns
unfolding print_numbers numerals
numerals-print [] h = refl
numerals-print (n ∷ ns) h =
    let l = numbers_long (n ∷ ns) in
    numerals-some (unwords (map digits (n ∷ ns))) (omega arith) ∙ (ap each_numeral (words-numbers n ns h) ∙ each_numbers (n ∷ ns) h)

-- what is read are printed numbers
pub print_numerals : (v ns : List ℕ) → numerals v ≡ some ns → print_numbers ns ≡ v
unfolding print_numbers numerals
print_numerals [] ns e = let q : [] ≡ ns = cc in rw (← q) refl
print_numerals (c ∷ cs) ns e = ap unwords (numbers_each (words (c ∷ cs)) ns e) ∙ unwords-words (c ∷ cs)

-- ---- one line

pub after_front : (k v : List ℕ) → after k (k ++ v) ≡ some v
unfolding after
after_front [] v = refl
after_front (c ∷ k) v = rw (eq-eqb c c refl, after) (after_front k v)

pub front_after : (k bs v : List ℕ) → after k bs ≡ some v → bs ≡ k ++ v
unfolding after
front_after [] bs v e = cc
front_after (c ∷ k) [] v e = never cc
front_after (c ∷ k) (b ∷ bs) v e = at (eqb c b) refl (front_after k bs v)
  where
    at : (t : Bool) → eqb c b ≡ t → (after k bs ≡ some v → bs ≡ k ++ v) → b ∷ bs ≡ c ∷ (k ++ v)
    at true p ih = λ i. sym (eqb-true c b p) i ∷ ih (rw (p, after) at e) i
    at false p ih = let h : ◌≡◌ {A = Option (List ℕ)} none (some v) = rw (p, after) at e in never cc

-- a printed line is read
pub line-print : (k xs : List ℕ) → Short xs → line k (k ++ (equals ∷ print_numbers xs)) ≡ some xs
unfolding line
line-print k xs h =
    let e : after (k ++ (equals ∷ [])) (k ++ (equals ∷ print_numbers xs)) ≡ some (print_numbers xs) =
    rw (← append_assoc k (equals ∷ []) (print_numbers xs)) (after_front (k ++ (equals ∷ [])) (print_numbers xs)) in
    rw (e, line) (numerals-print xs h)

-- a line that is read is printed
pub print_line_law : (k bs xs : List ℕ) → line k bs ≡ some xs → bs ≡ k ++ (equals ∷ print_numbers xs)
unfolding line
print_line_law k bs xs e = at (after (k ++ (equals ∷ [])) bs) refl
  where
    at : (o : Option (List ℕ)) → after (k ++ (equals ∷ [])) bs ≡ o → bs ≡ k ++ (equals ∷ print_numbers xs)
    at none p = let h : ◌≡◌ {A = Option (List ℕ)} none (some xs) = rw (p, line) at e in never cc
    at (some v) p =
        front_after (k ++ (equals ∷ [])) bs v p ∙
        (append_assoc k (equals ∷ []) v ∙ ap (λ (x : List ℕ). k ++ (equals ∷ x)) (sym (print_numerals v xs (rw (p, line) at e))))

pub due_print : (w : Due) (xs : List ℕ) → is_end w ≡ false → Short xs → due_line w (print_line w xs) ≡ some xs
unfolding due_line print_line
due_print w xs e h = rw (e, due_line) (line-print (key w) xs h)

pub print_due : (w : Due) (bs xs : List ℕ) → due_line w bs ≡ some xs → bs ≡ print_line w xs
unfolding due_line print_line
print_due w bs xs e = at (is_end w) refl
  where
    at : (b : Bool) → is_end w ≡ b → bs ≡ key w ++ (equals ∷ print_numbers xs)
    at true p = let h : ◌≡◌ {A = Option (List ℕ)} none (some xs) = rw (p, due_line) at e in never cc
    at false p = print_line_law (key w) bs xs (rw (p, due_line) at e)

-- ---- the first line of bytes

-- the byte is no LF
abbrev pub is_text : ℕ → Bool
is_text c = leb space c

pub digits_text : (cs : List ℕ) → all is_digit cs ≡ true → all is_text cs ≡ true
unfolding all
digits_text [] e = refl
digits_text (c ∷ cs) e =
    let (p, q) = both (is_digit c) (all is_digit cs) e in
    let (a, b) = within-says digit0 digit9 c p in
    two (le-leb space c (omega arith)) (digits_text cs q)

-- printed numbers have no LF
pub numbers_text : (ns : List ℕ) → Short ns → all is_text (print_numbers ns) ≡ true
unfolding print_numbers unwords all
numbers_text [] h = refl
numbers_text (n ∷ []) h = digits_text (digits n) (digits_are n (h n (Mem·head refl)))
numbers_text (n ∷ (m ∷ ns)) h =
    all_append is_text (digits n) (space ∷ unwords (map digits (m ∷ ns))) (digits_text (digits n) (digits_are n (h n (Mem·head refl))))
    (numbers_text (m ∷ ns) (rest_short h))

pub key-text : (w : Due) → all is_text (key w) ≡ true
unfolding key all
key-text Due.terms = refl
key-text Due.nonterms = refl
key-text Due.rules = refl
key-text Due.rule = refl
key-text Due.states = refl
key-text Due.state = refl
key-text Due.item = refl
key-text Due.go = refl
key-text Due.end = refl

line_text : (w : Due) (xs : List ℕ) → Short xs → all is_text (print_line w xs) ≡ true
unfolding print_line all
line_text w xs h = all_append is_text (key w) (equals ∷ print_numbers xs) (key-text w) (numbers_text xs h)

-- bytes that are no LF, ended by an LF, are the first line
pub text_cut : (l rest : List ℕ) → all is_text l ≡ true → cut_line (l ++ (newline ∷ rest)) ≡ Cut.whole l rest
unfolding cut_line all
text_cut [] rest e = refl
text_cut (c ∷ l) rest e =
    let (a, b) = both (is_text c) (all is_text l) e in
    let k = leb-true space c a in
    rw (ne_eqb c newline (omega arith), cut_line) (rw (text_cut l rest b) refl)

-- a printed line, ended by an LF, is the first line
pub cut_print : (w : Due) (xs rest : List ℕ) → Short xs → cut_line (print_line w xs ++ (newline ∷ rest)) ≡ Cut.whole (print_line w xs) rest
cut_print w xs rest h = text_cut (print_line w xs) rest (line_text w xs h)

pub cut-nothing : (bs : List ℕ) → cut_line bs ≡ Cut.nothing → bs ≡ []
unfolding cut_line
cut-nothing [] e = refl
cut-nothing (b ∷ bs) e = at (eqb b newline) refl (cut_line bs) refl
  where
    at : (t : Bool) → eqb b newline ≡ t → (c : Cut) → cut_line bs ≡ c → b ∷ bs ≡ []
    at true p c q = let h : ◌≡◌ {A = Cut} (Cut.whole [] bs) Cut.nothing = rw (p, cut_line) at e in never cc
    at false p Cut.nothing q = let h : ◌≡◌ {A = Cut} Cut.short Cut.nothing = rw (p, cut_line, q) at e in never cc
    at false p Cut.short q = let h : ◌≡◌ {A = Cut} Cut.short Cut.nothing = rw (p, cut_line, q) at e in never cc
    at false p (Cut.whole l r) q = let h : ◌≡◌ {A = Cut} (Cut.whole (b ∷ l) r) Cut.nothing = rw (p, cut_line, q) at e in never cc

pub cut-whole : (bs l rest : List ℕ) → cut_line bs ≡ Cut.whole l rest → bs ≡ l ++ (newline ∷ rest)
unfolding cut_line
cut-whole [] l rest e = never cc
cut-whole (b ∷ bs) l rest e = at (eqb b newline) refl (cut_line bs) refl (cut-whole bs)
  where
    at : (t : Bool) → eqb b newline ≡ t → (c : Cut) → cut_line bs ≡ c → ((l r : List ℕ) → cut_line bs ≡ Cut.whole l r → bs ≡ l ++ (newline ∷ r)) → b ∷ bs ≡ l ++ (newline ∷ rest)
    at true p c q ih =
        let h : ◌≡◌ {A = Cut} (Cut.whole [] bs) (Cut.whole l rest) = rw (p, cut_line) at e in
        let x : [] ≡ l = cc in let y : bs ≡ rest = cc in
        rw (← x) (λ i. eqb-true b newline p i ∷ y i)
    at false p Cut.nothing q ih = let h : ◌≡◌ {A = Cut} Cut.short (Cut.whole l rest) = rw (p, cut_line, q) at e in never cc
    at false p Cut.short q ih = let h : ◌≡◌ {A = Cut} Cut.short (Cut.whole l rest) = rw (p, cut_line, q) at e in never cc
    at false p (Cut.whole m r) q ih =
        let h : ◌≡◌ {A = Cut} (Cut.whole (b ∷ m) r) (Cut.whole l rest) = rw (p, cut_line, q) at e in
        let x : b ∷ m ≡ l = cc in let y : r ≡ rest = cc in
        rw (← x, ← y) (ap (λ (z : List ℕ). b ∷ z) (ih m r q))

-- ---- what was read is short, and what was cut off has no LF

each_short : (ws : List (List ℕ)) (ns : List ℕ) → each_numeral ws ≡ some ns → Short ns
unfolding each_numeral
each_short [] ns e = let q : [] ≡ ns = cc in rw (← q) (all_nil (λ n. n < 100000))
each_short (w ∷ ws) ns e = at (numeral w) refl (each_numeral ws) refl (each_short ws)
  where
    at : (o : Option ℕ) → numeral w ≡ o → (q : Option (List ℕ)) → each_numeral ws ≡ q → ((ms : List ℕ) → each_numeral ws ≡ some ms → Short ms) → Short ns
    at none p q r ih = let h : ◌≡◌ {A = Option (List ℕ)} none (some ns) = rw (p, each_numeral) at e in never cc
    at (some n) p none r ih = let h : ◌≡◌ {A = Option (List ℕ)} none (some ns) = rw (p, each_numeral, r) at e in never cc
    at (some n) p (some ms) r ih =
        let h : ◌≡◌ {A = Option (List ℕ)} (some (n ∷ ms)) (some ns) = rw (p, each_numeral, r) at e in
        let q : n ∷ ms ≡ ns = cc in
        rw (← q) (all_cons (λ n. n < 100000) (numeral-short w n p) (ih ms r))

numerals-short : (v ns : List ℕ) → numerals v ≡ some ns → Short ns
unfolding numerals
numerals-short [] ns e = let q : [] ≡ ns = cc in rw (← q) (all_nil (λ n. n < 100000))
numerals-short (c ∷ cs) ns e = each_short (words (c ∷ cs)) ns e

pub line-short : (k bs xs : List ℕ) → line k bs ≡ some xs → Short xs
unfolding line
line-short k bs xs e = at (after (k ++ (equals ∷ [])) bs) refl
  where
    at : (o : Option (List ℕ)) → after (k ++ (equals ∷ [])) bs ≡ o → Short xs
    at none p = let h : ◌≡◌ {A = Option (List ℕ)} none (some xs) = rw (p, line) at e in never cc
    at (some v) p = numerals-short v xs (rw (p, line) at e)

-- a line that is read is due
pub due_due : (w : Due) (bs xs : List ℕ) → due_line w bs ≡ some xs → is_end w ≡ false
unfolding due_line
due_due w bs xs e = at (is_end w) refl
  where
    at : (b : Bool) → is_end w ≡ b → is_end w ≡ false
    at true p = let h : ◌≡◌ {A = Option (List ℕ)} none (some xs) = rw (p, due_line) at e in never cc
    at false p = p

pub due_short : (w : Due) (bs xs : List ℕ) → due_line w bs ≡ some xs → Short xs
unfolding due_line
due_short w bs xs e = at (is_end w) refl
  where
    at : (b : Bool) → is_end w ≡ b → Short xs
    at true p = let h : ◌≡◌ {A = Option (List ℕ)} none (some xs) = rw (p, due_line) at e in never cc
    at false p = line-short (key w) bs xs (rw (p, due_line) at e)

pub nolf_cut : (l rest : List ℕ) → NoLf l → cut_line (l ++ (newline ∷ rest)) ≡ Cut.whole l rest
unfolding cut_line
nolf_cut [] rest h = refl
nolf_cut (c ∷ l) rest h = rw (ne_eqb c newline (h c (Mem·head refl)), cut_line) (rw (nolf_cut l rest (λ x m. h x (Mem·tail m))) refl)

pub nolf_short : (b : ℕ) (bs : List ℕ) → NoLf (b ∷ bs) → cut_line (b ∷ bs) ≡ Cut.short
unfolding cut_line
nolf_short b [] h = rw (ne_eqb b newline (h b (Mem·head refl)), cut_line) refl
nolf_short b (c ∷ bs) h = rw (ne_eqb b newline (h b (Mem·head refl)), cut_line) (rw (nolf_short c bs (λ x m. h x (Mem·tail m))) refl)

-- the cut-off line, or all bytes if none was cut off
cut_part : List ℕ → Cut → List ℕ
cut_part bs Cut.nothing = bs
cut_part bs Cut.short = bs
cut_part bs (Cut.whole l rest) = l

cut_nolf : (bs : List ℕ) → NoLf (cut_part bs (cut_line bs))
unfolding cut_line cut_part
cut_nolf [] = all_nil (λ b. b ≡ newline → ⊥)
cut_nolf (b ∷ bs) = at (eqb b newline) refl (cut_line bs) refl (cut_nolf bs)
  where
    keep : (l : List ℕ) → eqb b newline ≡ false → NoLf l → NoLf (b ∷ l)
    keep l p h = all_cons (λ b. b ≡ newline → ⊥) (eqb-false b newline p) h

    at : (t : Bool) → eqb b newline ≡ t → (c : Cut) → cut_line bs ≡ c → NoLf (cut_part bs (cut_line bs)) → NoLf (cut_part (b ∷ bs) (cut_line (b ∷ bs)))
    at true p c q ih = rw (p, cut_line) (all_nil (λ b. b ≡ newline → ⊥))
    at false p Cut.nothing q ih = rw (p, cut_line) (rw q (keep bs p (rw q at ih)))
    at false p Cut.short q ih = rw (p, cut_line) (rw q (keep bs p (rw q at ih)))
    at false p (Cut.whole l r) q ih = rw (p, cut_line) (rw q (keep l p (rw q at ih)))

pub cut_line-nolf : (bs l rest : List ℕ) → cut_line bs ≡ Cut.whole l rest → NoLf l
unfolding cut_part
cut_line-nolf bs l rest p = rw p at (cut_nolf bs)

pub cut_short_nolf : (bs : List ℕ) → cut_line bs ≡ Cut.short → NoLf bs
unfolding cut_part
cut_short_nolf bs p = rw p at (cut_nolf bs)
