use Rattle.std.proofs.Common.{◌≡◌, List, ℕ, [], ◌∷◌, ◌++◌, sym, ap, ◌∙◌, append-nil, if◌then◌else◌}
use Rattle.std.specs.Int.{w32, w64, to_be_bytes}
use Rattle.hk_emit.proofs.Joining.{more, joined}
use Rattle.hk_emit.proofs.emit_details.write_fields.Goals as goal

pub returns-then-context-clause-fields : goal.returns-then-context-clause-fields
returns-then-context-clause-fields c =
    let front : List ℕ =
    ((32 ∷ 46 ∷ to_be_bytes w32 c.args.context.now.generation ++ 61 ∷ to_be_bytes w64 c.args.context.now.burden ++ 91 ∷
    c.args.context.now.parent.0) ++ 92 ∷ c.args.nonce.now.0) ++ 93 ∷ c.args.context.now.hash.0 in
    let account : List ℕ = c.args.context.now.account.0 in
    let called : c.put-then-context-2.new.self
    ≡ c.put-10.new.self ++ (if c.args.context.now.with_callback then 138 ∷ 20 ∷ account else []) =
    more c.put-10.new.self c.put-then-context.new.self c.put-then-context-2.new.self (138 ∷ 20 ∷ []) account
    c.put-then-context.ensures.behind c.put-then-context-2.ensures.behind
    ∙ ap (λ b. c.put-10.new.self ++ (if b then 138 ∷ 20 ∷ account else [])) (sym c.if-context.true) in
    more c.args.written.now c.put-10.new.self c.put-then-context-2.new.self front
    (if c.args.context.now.with_callback then 138 ∷ 20 ∷ account else [])
    (joined c.args.written.now c.args.context.now.parent.0 c.args.nonce.now.0 c.args.context.now.hash.0
    c.args.context.now.generation c.args.context.now.burden c.put.new.self c.put-2.new.self c.put-3.new.self
    c.put-4.new.self c.put-5.new.self c.put-6.new.self c.put-7.new.self c.put-8.new.self c.put-9.new.self
    c.put-10.new.self
    c.put.ensures.behind (c.put-2.ensures.behind ∙ ap (λ x. c.put.new.self ++ x) c.to_be_bytes.ensures)
    c.put-3.ensures.behind (c.put-4.ensures.behind ∙ ap (λ x. c.put-3.new.self ++ x) c.to_be_bytes-2.ensures)
    c.put-5.ensures.behind c.put-6.ensures.behind c.put-7.ensures.behind c.put-8.ensures.behind c.put-9.ensures.behind
    c.put-10.ensures.behind) called

pub returns-else-context-clause-fields : goal.returns-else-context-clause-fields
returns-else-context-clause-fields c =
    let front : List ℕ =
    ((32 ∷ 46 ∷ to_be_bytes w32 c.args.context.now.generation ++ 61 ∷ to_be_bytes w64 c.args.context.now.burden ++ 91 ∷
    c.args.context.now.parent.0) ++ 92 ∷ c.args.nonce.now.0) ++ 93 ∷ c.args.context.now.hash.0 in
    let account : List ℕ = c.args.context.now.account.0 in
    let called : c.put-10.new.self
    ≡ c.put-10.new.self ++ (if c.args.context.now.with_callback then 138 ∷ 20 ∷ account else []) =
    sym (append-nil c.put-10.new.self)
    ∙ ap (λ b. c.put-10.new.self ++ (if b then 138 ∷ 20 ∷ account else [])) (sym c.if-context.false) in
    more c.args.written.now c.put-10.new.self c.put-10.new.self front
    (if c.args.context.now.with_callback then 138 ∷ 20 ∷ account else [])
    (joined c.args.written.now c.args.context.now.parent.0 c.args.nonce.now.0 c.args.context.now.hash.0
    c.args.context.now.generation c.args.context.now.burden c.put.new.self c.put-2.new.self c.put-3.new.self
    c.put-4.new.self c.put-5.new.self c.put-6.new.self c.put-7.new.self c.put-8.new.self c.put-9.new.self
    c.put-10.new.self
    c.put.ensures.behind (c.put-2.ensures.behind ∙ ap (λ x. c.put.new.self ++ x) c.to_be_bytes.ensures)
    c.put-3.ensures.behind (c.put-4.ensures.behind ∙ ap (λ x. c.put-3.new.self ++ x) c.to_be_bytes-2.ensures)
    c.put-5.ensures.behind c.put-6.ensures.behind c.put-7.ensures.behind c.put-8.ensures.behind c.put-9.ensures.behind
    c.put-10.ensures.behind) called
