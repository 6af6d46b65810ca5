use Rattle.std.proofs.Common.{◌≤◌, ◌+◌, ◌-◌, length}
use Rattle.hk_slots.proofs.Finding.{header_cut, header_bad, contents_found, contents_within}
use Rattle.hk_slots.proofs.part.contents_at.Goals as goal

pub returns-in-Cut-clause-found : goal.returns-in-Cut-clause-found
returns-in-Cut-clause-found c =
    λ elements array.
    absurd (header_cut c.one_header_read.ensures.law c.args.bytes.now elements c.args.index c.in-Some.span array
    (c.in-Some.ensures.found elements array) c.in-Cut.ensures.read)

pub returns-in-Bad-clause-found : goal.returns-in-Bad-clause-found
returns-in-Bad-clause-found c =
    λ elements array.
    absurd (header_bad c.one_header_read.ensures.law c.args.bytes.now elements c.args.index c.in-Some.span array
    (c.in-Some.ensures.found elements array) c.in-Bad.ensures.read)

pub returns-in-Header-clause-found : goal.returns-in-Header-clause-found
returns-in-Header-clause-found c =
    λ elements array.
    contents_found c.one_header_read.ensures.law c.args.bytes.now elements c.args.index c.in-Some.span array
    (c.in-Some.ensures.found elements array) c.in-Header.field c.in-Header.size c.in-Header.ensures.read

pub returns-in-Header-clause-within : goal.returns-in-Header-clause-within
returns-in-Header-clause-within c =
    let w : (c.in-Some.span.from + c.in-Header.size ≤ c.in-Some.span.to - 1)
    × (c.in-Some.span.to - 1 ≤ length c.args.bytes.now) × (1 ≤ c.in-Some.span.to) =
    contents_within c.one_header_read.ensures.law c.args.bytes.now c.requires.0 c.args.index c.in-Some.span c.requires.1
    (c.in-Some.ensures.found c.requires.0 c.requires.1) c.in-Header.field c.in-Header.size c.in-Header.ensures.read in
    (w.0, w.1)
