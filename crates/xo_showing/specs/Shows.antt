-- Which texts show an object: hex digits may have either case.
use Rattle.std.specs.Prelude.{◌≡◌, ◌+◌, ◌&&◌, ℕ, nat_le, List, map, Some, if◌then◌else◌}
use Rattle.serde_json.specs.Data.{Data, null, boolean, number, string, array, object, Items, no_items, item, Members}
use Rattle.serde_json.specs.Data.{no_members, member}
use Rattle.serde_json.specs.Read.{read}
use Rattle.xo_list.specs.Item.{Item}
use Rattle.xo_showing.specs.Showing.{showing}

-- a letter in lower case: `A` to `Z` are the characters 65 to 90 (ASCII)
abbrev pub lower : ℕ → ℕ
lower character = if nat_le 65 character && nat_le character 90 then character + 32 else character

-- every text in lower case, and no key
abbrev mutual
  pub lowered : Data → Data
  lowered null = null
  lowered (boolean b) = boolean b
  lowered (number n) = number n
  lowered (string text) = string (map lower text)
  lowered (array ds) = array (lowered_items ds)
  lowered (object ms) = object (lowered_members ms)

  pub lowered_items : Items → Items
  lowered_items no_items = no_items
  lowered_items (item d ds) = item (lowered d) (lowered_items ds)

  pub lowered_members : Members → Members
  lowered_members no_members = no_members
  lowered_members (member k d ms) = member k (lowered d) (lowered_members ms)

-- what the text reads as is the showing of the fields, up to the case of hex digits
abbrev pub Shows : List ℕ → List Item → Type 0
Shows text fields = (d : Data) × (read text ≡ Some d) × (lowered d ≡ showing fields)
