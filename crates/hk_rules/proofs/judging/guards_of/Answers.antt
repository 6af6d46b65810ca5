use Rattle.std.proofs.Common.{◌≡◌, ◌∙◌, length, sym, ap}
use Rattle.std.specs.Prelude.{Some, unwrap_or}
use Rattle.wa_ops.specs.Contexts.{calls_of}
use Rattle.wa_ops.specs.HookRules.{is_hook, is_cbak}
use Rattle.wa_ops.specs.Functions.{entry_of}
use Rattle.hk_rules.specs.Loops.{code_guards}
use Rattle.hk_rules.proofs.Entries.{entry_kept}
use Rattle.hk_rules.proofs.Whole.{count_of_rows}
use Rattle.hk_rules.proofs.judging.guards_of.Goals as goal

pub returns : goal.returns
returns c =
    let n : c.len-imported.result ≡ length (calls_of c.args.module.now.imports) =
    c.len-imported.ensures.items ∙ count_of_rows c.args.module.now c.args.rows c.requires.rows in
    record {
      guards = record {
        hook = ap (λ k. entry_of k is_hook c.args.module.now.exports) (sym n)
            ∙ entry_kept c.len-imported.result is_hook c.args.module.now.exports c.requires.hook
            ∙ ap Some
            (ap (λ o. unwrap_or o 0) (sym
            (c.hook_of.ensures.hook ∙ ap (entry_of c.len-imported.result is_hook) c.as_slice-exports.ensures.items))
            ∙ sym c.unwrap_or.ensures);
        cbak = ap (λ k. entry_of k is_cbak c.args.module.now.exports) (sym n)
            ∙ sym
            (c.cbak_of.ensures.cbak ∙ ap (entry_of c.len-imported.result is_cbak) c.as_slice-exports.ensures.items);
        imports = c.requires.rows.named;
        functions = c.in_ok-functions.ensures.functions ∙ ap code_guards c.as_slice.ensures.items;
      };
    }
