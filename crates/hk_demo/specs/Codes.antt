-- The codes of the two hooks: one call of `accept` or of `rollback`, with no text and the code 0 (WebAssembly Core
-- Specification, "Binary Format").
use Rattle.std.specs.Prelude.{ℕ, ◌+◌, List, [], ◌∷◌, ◌++◌, length, codes}

-- the magic number and the version
abbrev pub preamble : List ℕ
preamble = 0x00 ∷ 0x61 ∷ 0x73 ∷ 0x6D ∷ 0x01 ∷ 0x00 ∷ 0x00 ∷ 0x00 ∷ []

-- the type of `hook`, from i32 to i64, and that of the call, from two i32 and an i64 to i64
abbrev pub types : List ℕ
types =
    0x01 ∷ 0x0D ∷ 0x02
    ∷ 0x60 ∷ 0x01 ∷ 0x7F ∷ 0x01 ∷ 0x7E
    ∷ 0x60 ∷ 0x03 ∷ 0x7F ∷ 0x7F ∷ 0x7E ∷ 0x01 ∷ 0x7E
    ∷ []

-- the call, by its name
abbrev pub imports : List ℕ → List ℕ
imports name =
    0x02 ∷ (8 + length name) ∷ 0x01
    ∷ 0x03 ∷ codes "env" ++ length name ∷ name ++ 0x00 ∷ 0x01
    ∷ []

-- one function
abbrev pub functions : List ℕ
functions = 0x03 ∷ 0x02 ∷ 0x01 ∷ 0x00 ∷ []

-- the function behind the import, as `hook`
abbrev pub exports : List ℕ
exports = 0x07 ∷ 0x08 ∷ 0x01 ∷ 0x04 ∷ codes "hook" ++ 0x00 ∷ 0x01 ∷ []

-- `i32.const 0; i32.const 0; i64.const 0; call 0; end`
abbrev pub bodies : List ℕ
bodies =
    0x0A ∷ 0x0C ∷ 0x01
    ∷ 0x0A ∷ 0x00
    ∷ 0x41 ∷ 0x00 ∷ 0x41 ∷ 0x00 ∷ 0x42 ∷ 0x00 ∷ 0x10 ∷ 0x00 ∷ 0x0B
    ∷ []

-- the module whose `hook` makes the call of that name
unfoldable pub hook_code : List ℕ → List ℕ
hook_code name = preamble ++ types ++ imports name ++ functions ++ exports ++ bodies
