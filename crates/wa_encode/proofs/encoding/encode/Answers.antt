use Rattle.std.proofs.Common.{append_assoc, append-nil}
use Rattle.wa_encode.proofs.encoding.encode.Goals as goal

pub returns : goal.returns
returns c = record {
  bytes = rw (
    c.in_ok-list-10.ensures.bytes,
    c.as_slice-10.ensures.items,
    c.in_ok-list-9.ensures.bytes,
    c.as_slice-9.ensures.items,
    c.in_ok-list-8.ensures.bytes,
    c.as_slice-8.ensures.items,
    c.in_ok-start.ensures.bytes,
    c.in_ok-list-7.ensures.bytes,
    c.as_slice-7.ensures.items,
    c.in_ok-list-6.ensures.bytes,
    c.as_slice-6.ensures.items,
    c.in_ok-list-5.ensures.bytes,
    c.as_slice-5.ensures.items,
    c.in_ok-list-4.ensures.bytes,
    c.as_slice-4.ensures.items,
    c.in_ok-list-3.ensures.bytes,
    c.as_slice-3.ensures.items,
    c.in_ok-list-2.ensures.bytes,
    c.as_slice-2.ensures.items,
    c.in_ok-list.ensures.bytes,
    c.as_slice.ensures.items,
    c.in_ok-out.ensures.items,
  ) (simp (append_assoc, append-nil));
}
