-- The head of a message by its numbers, and that it is the head of what the numbers name.
-- Assumes nothing.
use Prim.Native.Nat.{ℕ, ◌+◌}
use mathlib.Core.Path.{◌≡◌}
use mathlib.Core.Bool.{true, false}
use mathlib.Core.List.{List, ◌++◌}
use Rattle.messages.specs.declared.Record.{Record}
use Rattle.ranges.specs.Entries.{heads_in, part_in, fields_before, fields_named, path_in, path_size}
use Rattle.http1_writer.specs.Write.{field_text, section_text, request_line, status_line, informational_text, host_field}
use Rattle.http1_writer.specs.declared.LengthLine.{LengthLine}
use Rattle.http1_writer.specs.Numbered.{section_size, heads_size, status_size, request_size, host_size, lead_text_in, lead_size}
use Rattle.http1_writer.specs.Numbered.{length_text, length_size, head_text_in, head_size}

module _ (s : List ℕ) (r : Record) (hs ns : List ℕ) where
  pub lead-response : r.response ≡ true
      → (lead_text_in s r hs ns ≡ informational_text (heads_in s hs ns 0 r.informational) ++ status_line r.status)
      × (lead_size r hs ns ≡ heads_size hs ns 0 r.informational + status_size r.status)
  unfolding lead_text_in lead_size
  lead-response e = (rw e, rw e)

  pub lead-request : r.response ≡ false
      → (lead_text_in s r hs ns ≡ request_line (part_in s r.method) (path_in s r.prefix r.path) ++ field_text (host_field (part_in s r.authority)))
      × (lead_size r hs ns ≡ request_size r.method (path_size r.prefix r.path) + host_size r.authority)
  unfolding lead_text_in lead_size
  lead-request e = (rw e, rw e)

  -- a head in its three parts, from the entry k of its first field on
  pub head-parts : (l : LengthLine) (k : ℕ) → k ≡ fields_before ns r.informational
      → (head_text_in s r l hs ns ≡ lead_text_in s r hs ns ++ length_text l ++ section_text (fields_named s hs k r.headers))
      × (head_size r l hs ns ≡ lead_size r hs ns + length_size l + section_size hs k r.headers)
  unfolding head_text_in head_size
  head-parts l k e = (rw e, rw e)
