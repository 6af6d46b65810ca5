use Rattle.std.proofs.Common.{◌≡◌, ◌≤◌, ◌∙◌, ap, sym, subst}
use Rattle.std.specs.Prelude.{Some, slice_get, sum_by}
use Rattle.hk_bound.proofs.Keeping.{depth_made, ends_made, few_locals, item_at, locals_made}
use Rattle.hk_bound.proofs.entries.function_entry.Goals as goal

pub count_of-requires : goal.count_of-requires
count_of-requires c =
    let at : slice_get c.args.module.now.codes c.args.function ≡ Some c.index-as_slice-place.result =
    item_at c.args.module.now.codes c.as_slice.result.now c.args.function c.index-as_slice-place.result
    c.as_slice.ensures.items c.index-as_slice-place.is c.requires.function in
    record {
      few = subst (λ runs. sum_by (λ run. run.0) runs ≤ 4096) (sym c.as_slice-4.ensures.items)
          (few_locals c.args.module.now c.args.function c.index-as_slice-place.result c.requires.ruled at);
    }

pub returns-clause-kept : goal.returns-clause-kept
returns-clause-kept c =
    let at : slice_get c.args.module.now.codes c.args.function ≡ Some c.index-as_slice-place.result =
    item_at c.args.module.now.codes c.as_slice.result.now c.args.function c.index-as_slice-place.result
    c.as_slice.ensures.items c.index-as_slice-place.is c.requires.function in
    record {
      ends =
          ends_made c.args.module.now c.args.function c.index-as_slice-place.result c.as_slice-3.result.now
          c.from_vec.result at c.as_slice-3.ensures.items
          (λ tree reads. c.from_vec.ensures.items ∙ c.in_ok-ends.ensures.ends tree reads);
      locals =
          locals_made c.args.module.now c.args.function c.count_of.result c.index-as_slice-place.result
          c.as_slice-4.result.now at c.as_slice-4.ensures.items c.count_of.ensures.count;
      depth =
          depth_made c.args.module.now c.args.function c.args.typed.now.depths c.depth_at-depth.result c.requires.depths
          (ap (λ ds. slice_get ds c.args.function) (sym c.as_slice-2.ensures.items) ∙ c.depth_at-depth.ensures.depth);
    }
