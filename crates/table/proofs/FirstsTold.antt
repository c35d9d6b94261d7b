-- What tests tell of a grammar, and what it says: reduced, and what can begin its nonterminals.
use Prim.Native.Nat.{ℕ}
use mathlib.Core.List.{List}
use Rattle.theory.specs.Grammar.{Grammar, WellFormed, Reduced}
use Rattle.table.specs.Condition4.Told.{ReducedTold, FirstsTold}
use Rattle.table.specs.Firsts.{Firsts}
use Rattle.table.specs.Notions.{nonterm}
use Rattle.table.specs.Run.Sets.{productives-tell, reachables-tell, firsts-tell}

module _ {g : Grammar} (W : WellFormed g) where
  pub reduced_told : Reduced g → ReducedTold g
  reduced_told R a n =
      ((productives-tell g W a n).shows (R.productive a n), (reachables-tell g W a n).shows (R.reachable a n))

  pub told_reduced : ReducedTold g → Reduced g
  told_reduced R = record {
    productive = λ a n. (productives-tell g W a n).holds (R a n).0;
    reachable = λ a n. (reachables-tell g W a n).holds (R a n).1;
  }

  pub firsts_told : {rows : List ℕ} → Reduced g → Firsts g rows → FirstsTold g rows
  firsts_told R F = record {
    long = F.long;
    each = λ k l. let s = F.each k l in record {
      below = s.below;
      holds = λ a i. (firsts-tell g W R (nonterm g k) a).shows (s.holds a i);
      shows = λ a h b. s.shows a h ((firsts-tell g W R (nonterm g k) a).holds b);
    };
  }

  pub told_firsts : {rows : List ℕ} → ReducedTold g → FirstsTold g rows → Firsts g rows
  told_firsts R F = record {
    long = F.long;
    each = λ k l. let s = F.each k l in record {
      below = s.below;
      holds = λ a i. (firsts-tell g W (told_reduced R) (nonterm g k) a).holds (s.holds a i);
      shows = λ a h b. s.shows a h ((firsts-tell g W (told_reduced R) (nonterm g k) a).shows b);
    };
  }
