-- Texts as bytes.
-- Assumes nothing.
--   ascii s     the codes of a quoted text's characters
--   opens l w   the bytes l begin with the word w
use Rattle.std.specs.Prelude.{ℕ, Bool, List, [], ◌∷◌, eqb, length}
use Prim.Native.Char.{code}
use Prim.Native.String as Text
use Prim.Native.String.{String}
use Rattle.tools.specs.Tests.{all_below}
use Rattle.tools.specs.Lists.{byte}

abbrev pub ascii : String → List ℕ
ascii Text.[] = []
ascii (Text.◌∷◌ c s) = code c ∷ ascii s

-- asked only where l is as long as w or longer
unfoldable pub opens : List ℕ → List ℕ → Bool
opens l w = all_below (length w) (λ i. eqb (byte l i) (byte w i))
