-- Bytes as quoted text, for examples.
use Rattle.std.specs.Prelude.{ℕ, List, [], ◌∷◌, ◌++◌}
use Prim.Native.Char.{code}
use Prim.Native.String.{String, [] as none, ◌∷◌ as put}
use Rattle.sheet.specs.Sheet.{newline}

-- the bytes of a text in ASCII
unfoldable pub ascii : String → List ℕ
ascii none = []
ascii (put c s) = code c ∷ ascii s

-- the bytes of lines, each with its LF
unfoldable pub text : List String → List ℕ
unfolding ascii
text [] = []
text (l ∷ ls) = ascii l ++ (newline ∷ text ls)
