-- Words are read as the line that they spell.
use Rattle.std.proofs.Common.{◌≡◌, ◌≤◌, ◌⊎◌, ◌==◌, inl, inr, ℕ, Bool, true, false, if◌then◌else◌, List, [], ◌∷◌, length}
use Rattle.std.proofs.Common.{codes, Option, Some, None, Ok, Err, option_and_then, unwrap_or, refl, sym, ap, subst, ◌∙◌}
use Rattle.std.proofs.Common.{arith, eq-eqb}
use Rattle.std.proofs.lemmas.Bool.{eqb-true}
use Rattle.std.proofs.lemmas.Bool.Decides.{nat_tests}
use Rattle.std.proofs.lemmas.Slice.Eq.{bytes_eq-Decides}
use Rattle.std.specs.Fmt.{decimal}
use Rattle.std.specs.Option.{option_map}
use Rattle.std.specs.Str.{bytes_eq}
use Rattle.hk_base.specs.Hexadecimal.{hex_bytes}
use Rattle.hk_base.specs.declared.ids.AccountId.{AccountId}
use Rattle.hk_base.specs.declared.ids.Hash256.{Hash256}
use Rattle.hk_lines.specs.Numbers.{most_drops}
use Rattle.hk_lines.specs.Words.{number_of, sized, some_bytes, some_bytes_of, sized_bytes_of}
use Rattle.hk_lines.specs.InputForms.{id_of, hash_of, account_of, ledger_of, verdict_of, tx_of, hook_of, end_of, shaped}
use Rattle.hk_lines.specs.InputForms.{words_read}
use Rattle.hk_lines.specs.Spelling.{Spells, SpellsBytes, verdict_word, IsNamed, ReadsSpelled, ReadsNamed, ReadsShaped}
use Rattle.hk_lines.specs.declared.input_line.InputLine.{InputLine}
use Rattle.hk_lines.specs.declared.input_line.InputLine.TheVariants.{Account, Ledger, Tx, Hook, End}
use Rattle.hk_lines.specs.declared.line_fault.LineFault.TheVariants.{BadWord, BadShape}
use Rattle.hk_lines.specs.declared.verdict.Verdict.{Verdict}
use Rattle.hk_lines.specs.declared.verdict.Verdict.TheVariants.{Good, Bad}
use Rattle.hk_lines.proofs.Numerals.{some_if, number_is, number_has}
use Rattle.hk_base.proofs.Options.{and_then_some, map_some}

-- ---- bytes

-- a word has so many bytes exactly where it spells so many
sized_is : (size : ℕ) (word bytes : List ℕ) → sized_bytes_of size word ≡ Some bytes →
    SpellsBytes bytes word × (length bytes ≡ size)
sized_is size word bytes h =
    let parts = and_then_some (sized size) (hex_bytes word) bytes h in
    let tests = some_if (length parts.0 == size) parts.0 bytes parts.2 in
    let long : length parts.0 ≡ size = eqb-true (length parts.0) size tests.0 in
    (parts.1 ∙ ap Some tests.1, sym (ap length tests.1) ∙ long)

sized_has : (size : ℕ) (word bytes : List ℕ) → SpellsBytes bytes word → length bytes ≡ size →
    sized_bytes_of size word ≡ Some bytes
sized_has size word bytes h long =
    let test : (length bytes == size) ≡ true = eq-eqb (length bytes) size long in
    rw (h, test) refl

-- a word has some bytes exactly where it spells one or more
some_is : (word bytes : List ℕ) → some_bytes_of word ≡ Some bytes → SpellsBytes bytes word × (1 ≤ length bytes)
some_is word bytes h =
    let parts = and_then_some some_bytes (hex_bytes word) bytes h in
    let tests = some_if _ parts.0 bytes parts.2 in
    let some : 1 ≤ length parts.0 = grind (arith, nat_tests, tests.0) in
    (parts.1 ∙ ap Some tests.1, subst (λ bs. 1 ≤ length bs) tests.1 some)

some_has : (word bytes : List ℕ) → SpellsBytes bytes word → 1 ≤ length bytes → some_bytes_of word ≡ Some bytes
some_has word bytes h some = rw h (grind (arith, nat_tests))

-- a word is an id exactly where it spells 20 bytes
id_is : (word : List ℕ) (id : AccountId) → id_of word ≡ Some id → SpellsBytes id.0 word × (length id.0 ≡ 20)
id_is word id h =
    let bytes = map_some {A = List ℕ} {B = AccountId} _ (sized_bytes_of 20 word) id h in
    let spelled = sized_is 20 word bytes.0 bytes.1 in
    let same : bytes.0 ≡ id.0 = ap (λ a. a.0) bytes.2 in
    (subst (λ bs. SpellsBytes bs word) same spelled.0, subst (λ bs. length bs ≡ 20) same spelled.1)

id_has : (word : List ℕ) (id : AccountId) → SpellsBytes id.0 word → length id.0 ≡ 20 → id_of word ≡ Some id
id_has word id h long = let bytes : sized_bytes_of 20 word ≡ Some id.0 = sized_has 20 word id.0 h long in rw bytes refl

-- a word is a hash exactly where it spells 32 bytes
hash_is : (word : List ℕ) (hash : Hash256) → hash_of word ≡ Some hash → SpellsBytes hash.0 word × (length hash.0 ≡ 32)
hash_is word hash h =
    let bytes = map_some {A = List ℕ} {B = Hash256} _ (sized_bytes_of 32 word) hash h in
    let spelled = sized_is 32 word bytes.0 bytes.1 in
    let same : bytes.0 ≡ hash.0 = ap (λ a. a.0) bytes.2 in
    (subst (λ bs. SpellsBytes bs word) same spelled.0, subst (λ bs. length bs ≡ 32) same spelled.1)

hash_has : (word : List ℕ) (hash : Hash256) → SpellsBytes hash.0 word → length hash.0 ≡ 32 → hash_of word ≡ Some hash
hash_has word hash h long =
    let bytes : sized_bytes_of 32 word ≡ Some hash.0 = sized_has 32 word hash.0 h long in rw bytes refl

-- a word is a verdict exactly where it is the verdict's
verdict_is : (word : List ℕ) (verdict : Verdict) (good bad : Bool) → bytes_eq word (codes "good") ≡ good →
    bytes_eq word (codes "bad") ≡ bad →
    (if good then Some Good else if bad then Some Bad else None) ≡ Some verdict → word ≡ verdict_word verdict
verdict_is word verdict true bad is_good is_bad h =
    (bytes_eq-Decides word (codes "good")).0 is_good ∙ ap (λ v. unwrap_or (option_map verdict_word v) []) h
verdict_is word verdict false true is_good is_bad h =
    (bytes_eq-Decides word (codes "bad")).0 is_bad ∙ ap (λ v. unwrap_or (option_map verdict_word v) []) h
verdict_is word verdict false false is_good is_bad h = cc h

verdict_has : (verdict : Verdict) → verdict_of (verdict_word verdict) ≡ Some verdict
verdict_has Good = refl
verdict_has Bad = refl

-- ---- forms

account_spells : (parts : List (List ℕ)) (line : InputLine) → account_of parts ≡ Some line →
    Spells line (codes "account" ∷ parts)
account_spells [] line h = cc h
account_spells (first ∷ []) line h = cc h
account_spells (first ∷ second ∷ []) line h = cc h
account_spells (first ∷ second ∷ third ∷ fourth ∷ parts) line h = cc h
account_spells (first ∷ second ∷ third ∷ []) line h =
    let id = and_then_some _ (id_of first) line h in
    let balance = and_then_some _ (number_of 0 most_drops second) line id.2 in
    let sequence = map_some _ (number_of 1 4294967294 third) line balance.2 in
    let spelled = id_is first id.0 id.1 in
    let balance_is = number_is 0 most_drops balance.0 second balance.1 in
    let sequence_is = number_is 1 4294967294 sequence.0 third sequence.1 in
    subst (λ l. Spells l (codes "account" ∷ first ∷ second ∷ third ∷ [])) sequence.2 (
      first,
      spelled.0,
      spelled.1,
      balance_is.2,
      sequence_is.1,
      sequence_is.2,
      ap (λ w. codes "account" ∷ first ∷ w ∷ third ∷ []) balance_is.0
          ∙ ap (λ w. codes "account" ∷ first ∷ decimal balance.0 ∷ w ∷ []) sequence_is.0,
    )

ledger_spells : (parts : List (List ℕ)) (line : InputLine) → ledger_of parts ≡ Some line →
    Spells line (codes "ledger" ∷ parts)
ledger_spells [] line h = cc h
ledger_spells (first ∷ []) line h = cc h
ledger_spells (first ∷ second ∷ []) line h = cc h
ledger_spells (first ∷ second ∷ third ∷ fourth ∷ parts) line h = cc h
ledger_spells (first ∷ second ∷ third ∷ []) line h =
    let seq = and_then_some _ (number_of 1 4294967000 first) line h in
    let time = and_then_some _ (number_of 0 4294967295 second) line seq.2 in
    let hash = map_some _ (hash_of third) line time.2 in
    let spelled = hash_is third hash.0 hash.1 in
    let seq_is = number_is 1 4294967000 seq.0 first seq.1 in
    let time_is = number_is 0 4294967295 time.0 second time.1 in
    subst (λ l. Spells l (codes "ledger" ∷ first ∷ second ∷ third ∷ [])) hash.2 (
      third,
      spelled.0,
      spelled.1,
      seq_is.1,
      seq_is.2,
      time_is.2,
      ap (λ w. codes "ledger" ∷ w ∷ second ∷ third ∷ []) seq_is.0
          ∙ ap (λ w. codes "ledger" ∷ decimal seq.0 ∷ w ∷ third ∷ []) time_is.0,
    )

tx_spells : (parts : List (List ℕ)) (line : InputLine) → tx_of parts ≡ Some line → Spells line (codes "tx" ∷ parts)
tx_spells [] line h = cc h
tx_spells (first ∷ []) line h = cc h
tx_spells (first ∷ second ∷ third ∷ parts) line h = cc h
tx_spells (first ∷ second ∷ []) line h =
    let verdict = and_then_some _ (verdict_of first) line h in
    let blob = map_some _ (some_bytes_of second) line verdict.2 in
    let spelled = some_is second blob.0 blob.1 in
    let word : first ≡ verdict_word verdict.0 = verdict_is first verdict.0 _ _ refl refl verdict.1 in
    subst (λ l. Spells l (codes "tx" ∷ first ∷ second ∷ [])) blob.2
    (second, spelled.0, spelled.1, ap (λ w. codes "tx" ∷ w ∷ second ∷ []) word)

hook_spells : (parts : List (List ℕ)) (line : InputLine) → hook_of parts ≡ Some line →
    Spells line (codes "hook" ∷ parts)
hook_spells [] line h = cc h
hook_spells (first ∷ second ∷ parts) line h = cc h
hook_spells (first ∷ []) line h =
    let code = map_some _ (some_bytes_of first) line h in
    let spelled = some_is first code.0 code.1 in
    subst (λ l. Spells l (codes "hook" ∷ first ∷ [])) code.2 (first, spelled.0, spelled.1, refl)

end_spells : (parts : List (List ℕ)) (line : InputLine) → end_of parts ≡ Some line → Spells line (codes "end" ∷ parts)
end_spells [] line h = let is : End ≡ line = cc h in subst (λ l. Spells l (codes "end" ∷ [])) is refl
end_spells (first ∷ parts) line h = cc h

-- ---- names

-- one of five tests holds, or the last answer comes
five : {A : Type 0} (t u v w x : Bool) (a b c d e other r : A) →
    (if t then a else if u then b else if v then c else if w then d else if x then e else other) ≡ r →
    ((t ≡ true) × (a ≡ r))
    ⊎ (((u ≡ true) × (b ≡ r))
    ⊎ (((v ≡ true) × (c ≡ r)) ⊎ (((w ≡ true) × (d ≡ r)) ⊎ (((x ≡ true) × (e ≡ r)) ⊎ (other ≡ r)))))
five true u v w x a b c d e other r h = inl (refl, h)
five false true v w x a b c d e other r h = inr (inl (refl, h))
five false false true w x a b c d e other r h = inr (inr (inl (refl, h)))
five false false false true x a b c d e other r h = inr (inr (inr (inl (refl, h))))
five false false false false true a b c d e other r h = inr (inr (inr (inr (inl (refl, h)))))
five false false false false false a b c d e other r h = inr (inr (inr (inr (inr h))))

-- a word that passes the test is the name
named : (word name : List ℕ) → bytes_eq word name ≡ true → word ≡ name
named word name test = (bytes_eq-Decides word name).0 test

-- the words of a form and what they are read as, or a bad word
pub data Form (words : List (List ℕ)) : Type 0 where
  account : (parts : List (List ℕ)) → words ≡ codes "account" ∷ parts → words_read words ≡ shaped (account_of parts) →
      Form words
  ledger : (parts : List (List ℕ)) → words ≡ codes "ledger" ∷ parts → words_read words ≡ shaped (ledger_of parts) →
      Form words
  tx : (parts : List (List ℕ)) → words ≡ codes "tx" ∷ parts → words_read words ≡ shaped (tx_of parts) → Form words
  hook : (parts : List (List ℕ)) → words ≡ codes "hook" ∷ parts → words_read words ≡ shaped (hook_of parts) → Form words
  end : (parts : List (List ℕ)) → words ≡ codes "end" ∷ parts → words_read words ≡ shaped (end_of parts) → Form words
  other : words_read words ≡ Err BadWord → Form words

form : (words : List (List ℕ)) → Form words
form [] = other refl
form (word ∷ parts) =
    elim (five
    (bytes_eq word (codes "account")) (bytes_eq word (codes "ledger")) (bytes_eq word (codes "tx"))
    (bytes_eq word (codes "hook"))
    (bytes_eq word (codes "end")) (shaped (account_of parts)) (shaped (ledger_of parts)) (shaped (tx_of parts))
    (shaped (hook_of parts))
    (shaped (end_of parts)) (Err BadWord) (words_read (word ∷ parts)) refl) [
      | inl is ↦ account parts (ap (λ w. w ∷ parts) (named word _ is.0)) (sym is.1)
      | inr more ↦ elim more [
        | inl is ↦ ledger parts (ap (λ w. w ∷ parts) (named word _ is.0)) (sym is.1)
        | inr more ↦ elim more [
          | inl is ↦ tx parts (ap (λ w. w ∷ parts) (named word _ is.0)) (sym is.1)
          | inr more ↦ elim more [
            | inl is ↦ hook parts (ap (λ w. w ∷ parts) (named word _ is.0)) (sym is.1)
            | inr more ↦ elim more [
              | inl is ↦ end parts (ap (λ w. w ∷ parts) (named word _ is.0)) (sym is.1)
              | inr bad ↦ other (sym bad)
            ]
          ]
        ]
      ]
    ]

-- ---- the laws

shaped_ok : (found : Option InputLine) (line : InputLine) → shaped found ≡ Ok line → found ≡ Some line
shaped_ok (Some found) line h = ap Some (cc h)
shaped_ok None line h = cc h

shaped_word : (found : Option InputLine) → shaped found ≡ Err BadWord → ⊥
shaped_word (Some found) h = cc h
shaped_word None h = cc h

-- a form's answer is a line or a bad shape
shaped_cases : (found : Option InputLine) →
    ((line : InputLine) × (shaped found ≡ Ok line)) ⊎ (shaped found ≡ Err BadShape)
shaped_cases (Some line) = inl (line, refl)
shaped_cases None = inr refl

read_spells : (words : List (List ℕ)) (line : InputLine) → words_read words ≡ Ok line → Spells line words
read_spells words line h =
    elim (form words) [
      | account parts e is ↦ subst (Spells line) (sym e) (account_spells parts line (shaped_ok _ line (sym is ∙ h)))
      | ledger parts e is ↦ subst (Spells line) (sym e) (ledger_spells parts line (shaped_ok _ line (sym is ∙ h)))
      | tx parts e is ↦ subst (Spells line) (sym e) (tx_spells parts line (shaped_ok _ line (sym is ∙ h)))
      | hook parts e is ↦ subst (Spells line) (sym e) (hook_spells parts line (shaped_ok _ line (sym is ∙ h)))
      | end parts e is ↦ subst (Spells line) (sym e) (end_spells parts line (shaped_ok _ line (sym is ∙ h)))
      | other is ↦ cc (is, h)
    ]

-- three steps with a value each
three : {A B C D : Type 0} (make : A → B → C → D) (a : Option A) (b : Option B) (c : Option C) (x : A) (y : B) (z : C) →
    a ≡ Some x → b ≡ Some y → c ≡ Some z →
    option_and_then (λ a'. option_and_then (λ b'. option_map (λ c'. make a' b' c') c) b) a ≡ Some (make x y z)
three make a b c x y z e f g = rw (e, f, g) refl

two : {A B D : Type 0} (make : A → B → D) (a : Option A) (b : Option B) (x : A) (y : B) → a ≡ Some x → b ≡ Some y →
    option_and_then (λ a'. option_map (λ b'. make a' b') b) a ≡ Some (make x y)
two make a b x y e f = rw (e, f) refl

-- the words of a form, where each is read
account_reads : (first second third : List ℕ) (id : AccountId) (balance sequence : ℕ) → id_of first ≡ Some id →
    number_of 0 most_drops second ≡ Some balance → number_of 1 4294967294 third ≡ Some sequence →
    words_read (codes "account" ∷ first ∷ second ∷ third ∷ []) ≡ Ok (Account id balance sequence)
account_reads first second third id balance sequence e f g =
    ap shaped (three (λ a b c. Account a b c) (id_of first) (number_of 0 most_drops second)
    (number_of 1 4294967294 third) id balance sequence e f g)

ledger_reads : (first second third : List ℕ) (seq time : ℕ) (hash : Hash256) → number_of 1 4294967000 first ≡ Some seq →
    number_of 0 4294967295 second ≡ Some time → hash_of third ≡ Some hash →
    words_read (codes "ledger" ∷ first ∷ second ∷ third ∷ []) ≡ Ok (Ledger seq time hash)
ledger_reads first second third seq time hash e f g =
    ap shaped (three (λ a b c. Ledger a b c) (number_of 1 4294967000 first) (number_of 0 4294967295 second)
    (hash_of third) seq time hash e f g)

tx_reads : (first second : List ℕ) (verdict : Verdict) (blob : List ℕ) → verdict_of first ≡ Some verdict →
    some_bytes_of second ≡ Some blob →
    words_read (codes "tx" ∷ first ∷ second ∷ []) ≡ Ok (Tx verdict blob)
tx_reads first second verdict blob e f =
    ap shaped (two (λ a b. Tx a b) (verdict_of first) (some_bytes_of second) verdict blob e f)

hook_reads : (first code : List ℕ) → some_bytes_of first ≡ Some code →
    words_read (codes "hook" ∷ first ∷ []) ≡ Ok (Hook code)
hook_reads first code e = ap (λ found. shaped (option_map (λ c. Hook c) found)) e

spelled_reads : (words : List (List ℕ)) (line : InputLine) → Spells line words → words_read words ≡ Ok line
spelled_reads words (Account id balance sequence) h =
    let first : id_of h.0 ≡ Some id = id_has h.0 id h.1 h.2 in
    let second : number_of 0 most_drops (decimal balance) ≡ Some balance =
    number_has 0 most_drops balance (omega arith) (omega arith) h.3 in
    let third : number_of 1 4294967294 (decimal sequence) ≡ Some sequence =
    number_has 1 4294967294 sequence (omega arith) h.4 h.5 in
    ap words_read h.6 ∙ account_reads h.0 (decimal balance) (decimal sequence) id balance sequence first second third
spelled_reads words (Ledger seq time last_hash) h =
    let first : number_of 1 4294967000 (decimal seq) ≡ Some seq = number_has 1 4294967000 seq (omega arith) h.3 h.4 in
    let second : number_of 0 4294967295 (decimal time) ≡ Some time =
    number_has 0 4294967295 time (omega arith) (omega arith) h.5 in
    let third : hash_of h.0 ≡ Some last_hash = hash_has h.0 last_hash h.1 h.2 in
    ap words_read h.6 ∙ ledger_reads (decimal seq) (decimal time) h.0 seq time last_hash first second third
spelled_reads words (Tx verdict blob) h =
    ap words_read h.3
    ∙ tx_reads (verdict_word verdict) h.0 verdict blob (verdict_has verdict) (some_has h.0 blob h.1 h.2)
spelled_reads words (Hook code) h = ap words_read h.3 ∙ hook_reads h.0 code (some_has h.0 code h.1 h.2)
spelled_reads words End h = ap words_read h

pub reads_spelled_law : ReadsSpelled
reads_spelled_law words line = (read_spells words line, spelled_reads words line)

-- words that begin with a name aren't a bad word
named_reads : (words : List (List ℕ)) → IsNamed words → words_read words ≡ Err BadWord → ⊥
named_reads [] is h = is
named_reads (word ∷ parts) (inl e) h =
    shaped_word (account_of parts) (subst (λ w. words_read (w ∷ parts) ≡ Err BadWord) e h)
named_reads (word ∷ parts) (inr (inl e)) h =
    shaped_word (ledger_of parts) (subst (λ w. words_read (w ∷ parts) ≡ Err BadWord) e h)
named_reads (word ∷ parts) (inr (inr (inl e))) h =
    shaped_word (tx_of parts) (subst (λ w. words_read (w ∷ parts) ≡ Err BadWord) e h)
named_reads (word ∷ parts) (inr (inr (inr (inl e)))) h =
    shaped_word (hook_of parts) (subst (λ w. words_read (w ∷ parts) ≡ Err BadWord) e h)
named_reads (word ∷ parts) (inr (inr (inr (inr e)))) h =
    shaped_word (end_of parts) (subst (λ w. words_read (w ∷ parts) ≡ Err BadWord) e h)

-- the words of a form are named, and read as its parts are
form_named : (words : List (List ℕ)) →
    (words_read words ≡ Err BadWord)
    ⊎ (IsNamed words × ((found : Option InputLine) × (words_read words ≡ shaped found)))
form_named words =
    elim (form words) [
      | account parts e is ↦ inr (subst IsNamed (sym e) (inl refl), (account_of parts, is))
      | ledger parts e is ↦ inr (subst IsNamed (sym e) (inr (inl refl)), (ledger_of parts, is))
      | tx parts e is ↦ inr (subst IsNamed (sym e) (inr (inr (inl refl))), (tx_of parts, is))
      | hook parts e is ↦ inr (subst IsNamed (sym e) (inr (inr (inr (inl refl)))), (hook_of parts, is))
      | end parts e is ↦ inr (subst IsNamed (sym e) (inr (inr (inr (inr refl)))), (end_of parts, is))
      | other is ↦ inl is
    ]

unnamed_reads : (words : List (List ℕ)) → (IsNamed words → ⊥) → words_read words ≡ Err BadWord
unnamed_reads words none = elim (form_named words) [ inl bad ↦ bad | inr named ↦ absurd (none named.0) ]

pub reads_named_law : ReadsNamed
reads_named_law words = (λ h is. named_reads words is h, unnamed_reads words)

bad_shape_named : (words : List (List ℕ)) → words_read words ≡ Err BadShape → IsNamed words
bad_shape_named words h = elim (form_named words) [ inl bad ↦ cc (bad, h) | inr named ↦ named.0 ]

unspelled_reads : (words : List (List ℕ)) → IsNamed words → ((line : InputLine) → Spells line words → ⊥) →
    words_read words ≡ Err BadShape
unspelled_reads words is none =
    elim (form_named words) [
      | inl bad ↦ absurd (named_reads words is bad)
      | inr named ↦ elim (shaped_cases named.1.0) [
        | inl line ↦ absurd (none line.0 (read_spells words line.0 (named.1.1 ∙ line.1)))
        | inr bad ↦ named.1.1 ∙ bad
      ]
    ]

pub reads_shaped_law : ReadsShaped
reads_shaped_law words = (
  λ h. (
    bad_shape_named words h,
    λ line spelled. let read : words_read words ≡ Ok line = spelled_reads words line spelled in cc (read, h),
  ),
  λ is. unspelled_reads words is.0 is.1,
)
