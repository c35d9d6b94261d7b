-- The box table of document 01, and its marked tails P1 to P8: the judgement of each is as the document says.
-- The program of Run computes it, and Run.Right says that what it says with fuel enough is the judgement.
use Rattle.std.specs.Prelude.{refl, true, false, [], ◌∷◌}
use Rattle.theory.specs.Table.{goto, go_in, reduce_on, reduce_in, has, is_empty}
use Rattle.theory.specs.Forest.{choose, chosen, reduced, long, long_of, long_in, join, weave, meet, grow, short, Judged}
use Rattle.theory.specs.Run.{reduce_by, reduce_all, take_by, take_all_tokens, judge_by, judge}
use Rattle.theory.proofs.Run.Right.{judge-says}
use Rattle.theory.specs.Example.Box.{box}

-- the marked tails: verdict, value and steps
pub marked :
    Judged box [] true 0 0 ×
    Judged box (0 ∷ []) true 1 0 ×
    Judged box (2 ∷ 1 ∷ []) true 2 3 ×
    Judged box (0 ∷ 1 ∷ []) false 1 0 ×
    Judged box (1 ∷ 1 ∷ []) true 2 4 ×
    Judged box (1 ∷ 2 ∷ 1 ∷ []) true 3 6 ×
    Judged box (0 ∷ 2 ∷ 1 ∷ []) true 3 2 ×
    Judged box (0 ∷ 2 ∷ 1 ∷ 0 ∷ []) true 4 6
unfolding box judge judge_by take_all_tokens take_by reduce_all reduce_by choose chosen reduced long long_of long_in join weave meet grow short goto go_in reduce_on reduce_in has is_empty
marked = (
  judge-says 9 box [] refl,
  judge-says 9 box (0 ∷ []) refl,
  judge-says 9 box (2 ∷ 1 ∷ []) refl,
  judge-says 9 box (0 ∷ 1 ∷ []) refl,
  judge-says 9 box (1 ∷ 1 ∷ []) refl,
  judge-says 9 box (1 ∷ 2 ∷ 1 ∷ []) refl,
  judge-says 9 box (0 ∷ 2 ∷ 1 ∷ []) refl,
  judge-says 9 box (0 ∷ 2 ∷ 1 ∷ 0 ∷ []) refl,
)
