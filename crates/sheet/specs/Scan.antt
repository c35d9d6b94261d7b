-- What the pass over a sheet finds, and what it keeps.
use Rattle.std.specs.Prelude.{ℕ, ◌≡◌, List, length, take, Result, Ok, Err}
use Rattle.sheet.specs.Sheet.{Read, over, bad, unfit, good}
use Rattle.sheet.specs.declared.ReadError.{ReadError}
pub mod Scanning

-- a reading without its numbers: how many they are, or why the sheet is refused
unfoldable pub scan_of : Read → Result ℕ ReadError
scan_of over = Err ReadError.TooLong
scan_of (bad line) = Err (ReadError.Form line)
scan_of (unfit line) = Err (ReadError.Range line)
scan_of (good ns d) = Ok (length ns)

-- the numbers of a sheet that is read stand at the front of an array
abbrev pub Kept : Read → List ℕ → Type 0
Kept over room = Unit
Kept (bad line) room = Unit
Kept (unfit line) room = Unit
Kept (good ns d) room = take (length ns) room ≡ ns
