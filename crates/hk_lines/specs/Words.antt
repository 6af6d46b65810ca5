-- The words of a line, and the numbers and bytes that a word spells (this project's own).
use Rattle.std.specs.Prelude.{ℕ, ◌==◌, ◌&&◌, nat_le, if◌then◌else◌, List, length, Option, Some, None, option_and_then}
use Rattle.std.specs.List.{slice_split}
use Rattle.std.specs.Fmt.{decimal}
use Rattle.std.specs.Str.{bytes_eq}
use Rattle.std.specs.Str.Parse.{digits_value}
use Rattle.hk_base.specs.Hexadecimal.{hex_bytes}

-- the words of a line are separated by one space each, which is byte 32; so two spaces have an empty word between them
abbrev pub words_of : List ℕ → List (List ℕ)
words_of line = slice_split (λ byte. byte == 32) line

-- the number of a word in decimal, from the least to the most: a word without sign and leading zeros is what its value
-- prints as
abbrev pub number_of : ℕ → ℕ → List ℕ → Option ℕ
number_of least most word =
    let value = digits_value 10 word in
    if bytes_eq word (decimal value) && (nat_le least value && nat_le value most) then Some value else None

-- bytes, where there are as many as this
abbrev pub sized : ℕ → List ℕ → Option (List ℕ)
sized size bytes = if length bytes == size then Some bytes else None

-- the bytes of a word in hex digits of either case, where there are as many as this
abbrev pub sized_bytes_of : ℕ → List ℕ → Option (List ℕ)
sized_bytes_of size word = option_and_then (sized size) (hex_bytes word)

-- bytes, where there is one
abbrev pub some_bytes : List ℕ → Option (List ℕ)
some_bytes bytes = if nat_le 1 (length bytes) then Some bytes else None

-- the bytes of a word in hex digits of either case, where there is one
abbrev pub some_bytes_of : List ℕ → Option (List ℕ)
some_bytes_of word = option_and_then some_bytes (hex_bytes word)
