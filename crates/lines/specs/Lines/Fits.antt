-- When one line's numbers fit: a test for each kind of line, over plain numbers. What is read before, as T, N, m and the right sides' lengths,
-- is handed in, so that the automaton of `Lines` and the code's `Shape` share these tests.
use Rattle.std.specs.Prelude.{ℕ, suc, ◌+◌, Bool, true, ◌&&◌, not, List, [], ◌∷◌, length, get_or, drop, eqb, ltb, leb}
use Rattle.lines.specs.Limits.{max_right, max_items, max_gos}

-- ---- small tests

-- the number at a place of a line
abbrev pub at : List ℕ → ℕ → ℕ
at xs i = get_or xs i 0

-- the line has this many numbers
abbrev pub counts : ℕ → List ℕ → Bool
counts n xs = eqb (length xs) n

-- the number is from lo to hi
abbrev pub within : ℕ → ℕ → ℕ → Bool
within lo hi x = leb lo x && leb x hi

-- every member passes the test
unfoldable pub all : (ℕ → Bool) → List ℕ → Bool
all f [] = true
all f (x ∷ xs) = f x && all f xs

-- each member is above the one before it, the first above x
unfoldable pub rises_from : ℕ → List ℕ → Bool
rises_from x [] = true
rises_from x (y ∷ ys) = ltb x y && rises_from y ys

-- each member is above the one before it
unfoldable pub rises : List ℕ → Bool
unfolding rises_from
rises [] = true
rises (x ∷ xs) = rises_from x xs

-- of T kinds and N nonterminals: the symbol is a nonterminal
abbrev pub is_nonterm : ℕ → ℕ → ℕ → Bool
is_nonterm t n x = within (suc t) (t + n) x

-- of T kinds and N nonterminals: the symbol is a kind or a nonterminal, not the end mark
abbrev pub is_symbol : ℕ → ℕ → ℕ → Bool
is_symbol t n x = leb x (t + n) && not (eqb x t)

-- of T kinds: the symbol is a kind or the end mark
abbrev pub is_ahead : ℕ → ℕ → Bool
is_ahead t x = leb x t

-- a look-ahead set: kinds or the end mark, rising
abbrev pub ahead_fits : ℕ → List ℕ → Bool
ahead_fits t xs = all (is_ahead t) xs && rises xs

-- ---- one line of each kind

-- terms=T, nonterms=N, rules=R, states=m: one number, from 1 to the limit
abbrev pub fits_one : ℕ → List ℕ → Bool
fits_one most xs = counts 1 xs && within 1 most (at xs 0)

-- rule=A X1 ..: a nonterminal, then 1 to 8 symbols
unfoldable pub fits_rule : ℕ → ℕ → List ℕ → Bool
unfolding all
fits_rule t n xs = within 2 (suc max_right) (length xs) && is_nonterm t n (at xs 0) && all (is_symbol t n) (drop 1 xs)

-- state=K G
unfoldable pub fits_state : List ℕ → Bool
fits_state xs = counts 2 xs && within 1 max_items (at xs 0) && within 0 max_gos (at xs 1)

-- item=r d t1 ..: of rules whose right sides have these lengths; the accept rule's right side is one symbol
unfoldable pub fits_item : ℕ → List ℕ → List ℕ → Bool
unfolding all rises
fits_item t rights xs =
    leb 3 (length xs) && leb (at xs 0) (length rights) && leb (at xs 1) (get_or rights (at xs 0) 1) && ahead_fits t (drop 2 xs)

-- go=X s: of m states; the test says which X may come after those of the state's go lines before
unfoldable pub fits_go : ℕ → ℕ → ℕ → (ℕ → Bool) → List ℕ → Bool
fits_go t n m may xs = counts 2 xs && is_symbol t n (at xs 0) && ltb (at xs 1) m && may (at xs 0)
