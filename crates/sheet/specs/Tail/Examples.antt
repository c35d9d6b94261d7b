-- Lines tail=.., their literal bytes, and what is told of them before a slice is looked at.
use Rattle.std.specs.Prelude.{◌≡◌, refl, [], ◌∷◌, Ok, Err}
use Rattle.std.proofs.Math.Option.{some}
use Rattle.sheet.specs.Quoted.{text}
use Rattle.sheet.specs.Tail.{tail_of, told_of}
use Rattle.sheet.specs.declared.TailError.{TailError}

-- document 01's tail
pub its_tail : tail_of (text ("tail=2 1" ∷ [])) ≡ some (2 ∷ 1 ∷ [])
unfolding tail_of text
its_tail = refl

-- nothing after the equals sign is the empty tail
pub empty_tail : tail_of (text ("tail=" ∷ [])) ≡ some []
unfolding tail_of text
empty_tail = refl

-- the largest token
pub largest_token : told_of (tail_of (text ("tail=65535" ∷ []))) ≡ Ok 1
unfolding told_of tail_of text
largest_token = refl

-- one more has the form, and not the range
pub token_over : told_of (tail_of (text ("tail=65536 0" ∷ []))) ≡ Err TailError.Range
unfolding told_of tail_of text
token_over = refl

-- form goes before range: a leading zero, a space at the end, six digits
pub form_first :
    (told_of (tail_of (text ("tail=65536 00" ∷ []))) ≡ Err TailError.Form) ×
    (told_of (tail_of (text ("tail=65536 " ∷ []))) ≡ Err TailError.Form) ×
    (told_of (tail_of (text ("tail=100000" ∷ []))) ≡ Err TailError.Form)
unfolding told_of tail_of text
form_first = (refl, refl, refl)

-- a second line, or none
pub one_line :
    (told_of (tail_of (text ("tail=2" ∷ "" ∷ []))) ≡ Err TailError.Form) ×
    (told_of (tail_of (text [])) ≡ Err TailError.Form)
unfolding told_of tail_of text
one_line = (refl, refl)
