-- Every marked case is right.
use Rattle.std.specs.Prelude.{◌≡◌, refl, List, [], ◌∷◌}
use Prim.Native.String.{String}
use Rattle.std.proofs.Common.{sym, ◌∙◌}
use Rattle.lines.specs.Basics.{All, all_nil, all_cons}
use Rattle.sheet.specs.Box.{box_lines as box}
use Rattle.input.specs.Box.{small_box, box_outcome}
use Rattle.input.proofs.Box.Exact.{computed, only}
use Rattle.input.specs.Marked.{Case, cases, Right, times}

right : (c : Case) → box_outcome small_box c.input ≡ c.back → Right c
right c e = record { so = computed small_box c.input e; no_other = λ j h. sym (only small_box c.input j h) ∙ e }

-- the program gives what comes back, case by case
infixr 67 ◌▸◌
data Computed : List Case → Type 0 where
  done : Computed []
  ◌▸◌ : {c : Case} {cs : List Case} → box_outcome small_box c.input ≡ c.back → Computed cs → Computed (c ∷ cs)

each : Computed cases
unfolding cases box_outcome small_box
each =
    -- P1 to P9
    refl ▸ refl ▸ refl ▸ refl ▸ refl ▸ refl ▸ refl ▸ refl ▸ refl ▸
    -- P10 to P12
    refl ▸ refl ▸ refl ▸
    -- the wider set
    refl ▸
    -- 111 and 112 tokens
    refl ▸ refl ▸
    -- lines that are missing, extra or without LF
    refl ▸ refl ▸ refl ▸ refl ▸ refl ▸ refl ▸ refl ▸
    -- the tail line
    refl ▸ refl ▸ refl ▸ refl ▸ refl ▸
    -- bytes
    refl ▸ refl ▸
    -- tokens
    refl ▸ refl ▸ refl ▸ refl ▸ refl ▸ refl ▸ done

all_right : {cs : List Case} → Computed cs → All Right cs
all_right done = all_nil Right
all_right (◌▸◌ {c = c} e es) = all_cons Right (right c e) (all_right es)

-- every case of the list is right
pub marked : All Right cases
marked = all_right each

-- each of the three lines that are made others stands in the sheet once
pub once : All (λ (l : String). times l box ≡ 1) ("go=1 7" ∷ "item=3 1 0 1 2" ∷ "item=5 1 3" ∷ [])
unfolding times box
once = all_cons _ refl (all_cons _ refl (all_cons _ refl (all_nil _)))
