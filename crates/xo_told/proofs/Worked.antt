-- Worked texts, computed.
use Rattle.std.proofs.Common.{refl}
use Rattle.std.specs.Str.{is_utf8, chars}
use Rattle.std.specs.Char.{encode_utf8}
use Rattle.std.specs.Float.Numeral.{scan_numeral}
use Rattle.std.specs.Fmt.{digits}
use Rattle.json.specs.Json.{value}
use Rattle.json.specs.Lex.{punctuate, lex}
use Rattle.json.specs.Text.{content}
use Rattle.json.specs.Word.{word, after_number}
use Rattle.serde_json.specs.Read.{number_of}
use Rattle.xo_showing.specs.Name.{name_of}
use Rattle.xo_told.specs.Told.{told}
use Rattle.xo_told.specs.Worked.{WorkedTexts}

pub worked : WorkedTexts
unfolding told is_utf8 chars number_of name_of value punctuate lex content word after_number scan_numeral encode_utf8 digits
worked = record {
  numbers = refl;
  array = refl;
  twice = refl;
  cut = refl;
  deep = refl;
  unnamed = refl;
  named = refl;
  end_mark = refl;
  no_kind = refl;
  element = refl;
  root = refl;
  negative = refl;
  large = refl;
  long = refl;
  drops = refl;
  two_keys = refl;
  ten = refl;
  eleven = refl;
}
