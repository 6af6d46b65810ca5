-- What is held of lines that come in pieces.
use Rattle.std.proofs.Common.{◌-◌, min, ◌≡◌, ◌≢◌, ◌<◌, ◌≤◌, ◌⊎◌, ℕ, ◌+◌, ◌==◌, false, if◌then◌else◌, List, [], ◌∷◌}
use Rattle.std.proofs.Common.{◌++◌, length, take, refl, sym, ap, subst, ◌∙◌, inl, inr, arith, append-nil, length-append}
use Rattle.std.proofs.lemmas.Bool.{cases_eq}
use Rattle.std.proofs.lemmas.List.{append_cancel_right, take-take, length-take}
use Rattle.hk_lines.specs.Cut.{Cut, behind, whole, cut, begun, joined, trim}
use Rattle.hk_lines.specs.Cutting.{IsUnfinished, IsLine, IsEndless, IsHeld, listed, IsCut, IsTooLong, CutsPieces}
use Rattle.hk_lines.specs.Numbers.{longest_line, endless_line}
use Rattle.hk_lines.proofs.CutLemmas.{cut_joined, begun_nothing, trim_length, uncut, uncut_cut}

-- ---- whatever the pieces

-- a piece behind listed lines begins where the held bytes end
listed_joined : (lines : List (List ℕ)) (held : List ℕ) (c : Cut) →
    joined (listed lines held) c ≡ joined (listed lines []) (begun held c)
listed_joined [] held c = sym (begun_nothing (begun held c))
listed_joined (line ∷ lines) held c = ap (whole line) (listed_joined lines held c)

-- lines that end in what is held
listed_behind : (lines : List (List ℕ)) (held : List ℕ) → joined (listed lines []) (behind held) ≡ listed lines held
listed_behind [] held = refl
listed_behind (line ∷ lines) held = ap (whole line) (listed_behind lines held)

listed_line : (lines : List (List ℕ)) (line : List ℕ) →
    joined (listed lines []) (whole line (behind [])) ≡ listed (lines ++ line ∷ []) []
listed_line [] line = refl
listed_line (first ∷ lines) line = ap (whole first) (listed_line lines line)

-- what a piece makes of listed lines, where the held bytes have no line feed
piece_joined : (taken : List ℕ) (lines : List (List ℕ)) (held piece : List ℕ) → IsCut taken lines held →
    cut (taken ++ piece) ≡ joined (listed lines []) (begun held (cut piece))
piece_joined taken lines held piece h =
    cut_joined taken piece ∙ ap (λ c. joined c (cut piece)) h ∙ listed_joined lines held (cut piece)

-- held bytes and a piece
held_piece : (held piece : List ℕ) → cut held ≡ behind held → cut (held ++ piece) ≡ begun held (cut piece)
held_piece held piece h = cut_joined held piece ∙ ap (λ c. joined c (cut piece)) h

-- bytes that are too many for a line begin one that is too long
endless_begun : (bytes : List ℕ) (c : Cut) → length bytes ≡ endless_line → IsTooLong (begun bytes c)
endless_begun bytes (behind more) size = omega (arith, size, length-append bytes more)
endless_begun bytes (whole line more) size =
    let trimmed : length (bytes ++ line) ≤ length (trim (bytes ++ line)) + 1 = trim_length (bytes ++ line) in
    omega (arith, size, trimmed, length-append bytes line)

pub cuts_pieces_law : CutsPieces
cuts_pieces_law = record {
  nothing = refl;
  goes_on = λ taken lines held piece uncut_held is more.
      piece_joined taken lines held piece is
      ∙ ap (joined (listed lines [])) (sym (held_piece held piece uncut_held) ∙ more)
      ∙ listed_behind lines (held ++ piece);
  ends_line = λ taken lines held piece line uncut_held is more.
      piece_joined taken lines held piece is
      ∙ ap (joined (listed lines [])) (sym (held_piece held piece uncut_held) ∙ more)
      ∙ listed_line lines line;
  ends_endless = λ taken lines held piece more uncut_held is endless.
      let held_on : IsCut (taken ++ piece) lines (held ++ piece) =
      piece_joined taken lines held piece is
      ∙ ap (joined (listed lines [])) (sym (held_piece held piece uncut_held) ∙ endless.0)
      ∙ listed_behind lines (held ++ piece) in
      record {
        rest = begun (held ++ piece) (cut more);
        cuts = piece_joined (taken ++ piece) lines (held ++ piece) more held_on;
        long = endless_begun (held ++ piece) (cut more) endless.1;
      };
}

-- ---- the first line feed of a piece

-- one more byte, which is no line feed
pub cut_more : (bytes : List ℕ) (byte : ℕ) → cut bytes ≡ behind bytes → (byte == 10) ≡ false →
    cut (bytes ++ byte ∷ []) ≡ behind (bytes ++ byte ∷ [])
cut_more bytes byte h other =
    let one : cut (byte ∷ []) ≡ behind (byte ∷ []) =
    ap (λ t. if t then whole [] (behind []) else behind (byte ∷ [])) other in
    held_piece bytes (byte ∷ []) h ∙ ap (begun bytes) one

-- one more byte, which is the line feed
pub cut_ended : (bytes : List ℕ) → cut bytes ≡ behind bytes → cut (bytes ++ 10 ∷ []) ≡ whole bytes (behind [])
cut_ended bytes h = held_piece bytes (10 ∷ []) h ∙ ap (λ l. whole l (behind [])) (append-nil bytes)

-- ---- what feeding holds

-- the first line feed of a part, or none
abbrev pub CutsOnce : List ℕ → Type 0
CutsOnce part = (cut part ≡ behind part) ⊎ ((line : List ℕ) × (cut part ≡ whole line (behind [])))

-- a line and its line feed
ended_is : (part line : List ℕ) → cut part ≡ whole line (behind []) → line ++ 10 ∷ [] ≡ part
ended_is part line h = sym (ap uncut h) ∙ uncut_cut part

-- held bytes and a part that leaves no line feed behind it
pub held_fed : (held part : List ℕ) → IsUnfinished held → CutsOnce part → length held + length part ≤ endless_line →
    IsHeld (held ++ part)
held_fed held part is (inl none) room =
    let cuts : cut (held ++ part) ≡ behind (held ++ part) = held_piece held part is.0 ∙ ap (begun held) none in
    let long : length (held ++ part) ≡ length held + length part = length-append held part in
    elim (cases_eq (length (held ++ part)) endless_line) [
      | inl all ↦ inr (inl (cuts, all))
      | inr fewer ↦ inl (cuts, omega (arith, long, fewer, room))
    ]
held_fed held part is (inr (line, h)) room =
    let cuts : cut (held ++ part) ≡ whole (held ++ line) (behind []) = held_piece held part is.0 ∙ ap (begun held) h in
    let feed : length line + 1 ≡ length part = sym (length-append line (10 ∷ [])) ∙ ap length (ended_is part line h) in
    let long : length (held ++ line) ≡ length held + length line = length-append held line in
    inr (inr (held ++ line, (cuts, omega (arith, feed, long, room))))

-- an unfinished line took the whole part
pub fed_all : (held part : List ℕ) → IsUnfinished held → CutsOnce part → IsUnfinished (held ++ part) →
    (cut part ≡ behind part) × (length held + length part < endless_line)
fed_all held part is (inl none) unfinished = (none, omega (arith, unfinished.1, length-append held part))
fed_all held part is (inr (line, h)) unfinished =
    let cuts : cut (held ++ part) ≡ whole (held ++ line) (behind []) = held_piece held part is.0 ∙ ap (begun held) h in
    cc (cuts, unfinished.0)

-- the part that is taken of a piece, with room for so many bytes
pub record Feeds (held piece : List ℕ) (room count : ℕ) : Type 0 where
  pub unfinished : IsUnfinished held
  pub room_is : room ≡ min (2097154 - length held) (length piece)
  pub most : count ≤ length (take room piece)
  pub cuts :
      ((cut (take count (take room piece)) ≡ behind (take count (take room piece)))
      × (count ≡ length (take room piece)))
      ⊎ ((line : List ℕ) × (cut (take count (take room piece)) ≡ whole line (behind [])))

-- the part within the room is the part of the piece
part_same : (held piece : List ℕ) (room count : ℕ) → Feeds held piece room count →
    take count (take room piece) ≡ take count piece
part_same held piece room count h = take-take count room piece (omega (arith, h.most, length-take room piece))

part_cuts : (held piece : List ℕ) (room count : ℕ) → Feeds held piece room count → CutsOnce (take count piece)
part_cuts held piece room count h =
    subst CutsOnce (part_same held piece room count h)
    (elim h.cuts as (λ _. CutsOnce (take count (take room piece))) [ inl none ↦ inl none.0 | inr line ↦ inr line ])

-- what is held then
pub feeds_held : (held piece : List ℕ) (room count : ℕ) → Feeds held piece room count →
    IsHeld (held ++ take count piece)
feeds_held held piece room count h =
    held_fed held (take count piece) h.unfinished (part_cuts held piece room count h)
    (omega (arith, h.room_is, h.most, h.unfinished.1, length-take room piece, length-take count piece))

-- a piece of which not all is taken ends a line
pub feeds_all : (held piece : List ℕ) (room count : ℕ) → Feeds held piece room count →
    IsUnfinished (held ++ take count piece) → count ≡ length piece
feeds_all held piece room count h unfinished =
    let all = fed_all held (take count piece) h.unfinished (part_cuts held piece room count h) unfinished in
    elim h.cuts [
      | inl none ↦
          omega
          (arith, none.1, all.1, h.room_is, h.most, h.unfinished.1, length-take room piece, length-take count piece)
      | inr line ↦
          let is : cut (take count piece) ≡ whole line.0 (behind []) =
          subst (λ b. cut b ≡ whole line.0 (behind [])) (part_same held piece room count h) line.1 in
          cc (is, all.0)
    ]

-- ---- what stands ready

-- bytes that end in a line feed are no unfinished line
joined_feed : (c : Cut) (bytes : List ℕ) → joined c (whole [] (behind [])) ≡ behind bytes → ⊥
joined_feed (behind more) bytes h = cc h
joined_feed (whole line more) bytes h = cc h

feed_ends : (line bytes : List ℕ) → cut (line ++ 10 ∷ []) ≡ behind bytes → ⊥
feed_ends line bytes h = joined_feed (cut line) bytes (sym (cut_joined line (10 ∷ [])) ∙ h)

-- held bytes that end in a line feed are that line
pub held_line : (held line : List ℕ) → IsHeld held → held ≡ line ++ 10 ∷ [] → IsLine held line
held_line held line (inl unfinished) e = absurd (feed_ends line held (ap cut (sym e) ∙ unfinished.0))
held_line held line (inr (inl all)) e = absurd (feed_ends line held (ap cut (sym e) ∙ all.0))
held_line held line (inr (inr (other, (is, short)))) e =
    let same : other ≡ line = append_cancel_right other line (10 ∷ []) (ended_is held other is ∙ e) in
    (is ∙ ap (λ l. whole l (behind [])) same, subst (λ l. length l < endless_line) same short)

-- held bytes that don't end in one are endless or unfinished
pub held_endless : (held : List ℕ) → IsHeld held → ((front : List ℕ) → held ≢ front ++ 10 ∷ []) →
    length held ≡ endless_line → IsEndless held
held_endless held (inl unfinished) none all = absurd (omega (arith, unfinished.1, all))
held_endless held (inr (inl is)) none all = is
held_endless held (inr (inr (line, (is, short)))) none all = absurd (none line (sym (ended_is held line is)))

pub held_unfinished : (held : List ℕ) → IsHeld held → ((front : List ℕ) → held ≢ front ++ 10 ∷ []) →
    (length held ≡ endless_line → ⊥) → IsUnfinished held
held_unfinished held (inl unfinished) none other = unfinished
held_unfinished held (inr (inl is)) none other = absurd (other is.1)
held_unfinished held (inr (inr (line, (is, short)))) none other = absurd (none line (sym (ended_is held line is)))
