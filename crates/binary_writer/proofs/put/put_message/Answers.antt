use mathlib.Core.Path.{refl}
use native.Mathlib.Omega.{arith}
use Rattle.binary_writer.proofs.Steps.{size-message, within-as, put-message}
use Rattle.binary_writer.proofs.put.put_message.Goals as goal

pub put_control_data-a-requires : goal.put_control_data-a-requires
put_control_data-a-requires c = ((c.args.chunks.now, c.args.trailers.now, c.requires.0), omega (arith, c.requires.1, size-message c.args.r c.args.fields.now c.args.heads.now c.args.trailers.now refl c.fields_before-k.ensures refl refl refl))

pub put_header-b-requires : goal.put_header-b-requires
put_header-b-requires c = (within-as c.fields_before-k.ensures refl c.requires.0.headers, omega (arith, c.requires.1, size-message c.args.r c.args.fields.now c.args.heads.now c.args.trailers.now refl c.fields_before-k.ensures refl refl refl, c.put_control_data-a.auto, c.put_control_data-a.ensures.next))

pub put_content-d-requires : goal.put_content-d-requires
put_content-d-requires c = (c.requires.0.chunks, c.requires.0.content, omega (arith, c.requires.0.small), omega (arith, c.requires.1, size-message c.args.r c.args.fields.now c.args.heads.now c.args.trailers.now refl c.fields_before-k.ensures refl refl refl, c.put_control_data-a.auto, c.put_control_data-a.ensures.next, c.put_header-b.auto, c.put_header-b.ensures.next))

pub put_section-requires : goal.put_section-requires
put_section-requires c = (c.requires.0.trailers, omega (arith, c.requires.1, size-message c.args.r c.args.fields.now c.args.heads.now c.args.trailers.now refl c.fields_before-k.ensures refl refl refl, c.put_control_data-a.auto, c.put_control_data-a.ensures.next, c.put_header-b.auto, c.put_header-b.ensures.next, c.put_content-d.auto, c.put_content-d.ensures.next))

pub returns : goal.returns
returns c = put-message c.args.s.now c.args.r c.args.fields.now c.args.heads.now c.args.chunks.now c.args.trailers.now c.fields_before-k.ensures c.put_control_data-a.ensures c.put_header-b.ensures c.put_content-d.ensures c.put_section.ensures
