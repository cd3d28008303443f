-- Field lines of the head, octet by octet: the names and values that are kept are those of the lines.
use Rattle.std.proofs.Common.{None, Option, Some}
use Prim.Native.Nat.{ℕ, ◌+◌, ◌-◌, ◌<◌, ◌≤◌}
use mathlib.Core.Path.{◌≡◌, refl, sym, ap, ap₂, ◌∙◌, subst}
use mathlib.Core.Bool.{Bool, true, false, cond}
use mathlib.Core.List.{List, [], ◌∷◌, ◌++◌, append_assoc, append-nil, map}
use native.Mathlib.Omega.{arith}
use borrow.Author.Tests.{eqb-true, eqb-false, leb-true, leb-false}
use lib.Dec.{eqb, leb}
use lib.ListN.{length, take, drop, set, length-append, length-drop}
use lib.Seq.{take-set-le, take-take, length-take-le, drop-drop, take_at}
use Rattle.octets.specs.Text.{lower_of}
use Rattle.octets.specs.Limits.{head_most, lines_most}
use Rattle.octets.specs.Refusals.{bad_syntax, too_large}
use Rattle.octets.proofs.Kit.{either, no_true}
use Rattle.script.specs.Script.{free, cr_state}
use Rattle.script.specs.Do.{◌>>=◌}
use Rattle.script.specs.Feed.{failed, after}
use Rattle.output.specs.Splice.{splice}
use Rattle.output.proofs.Laws.{splice-length}
use Rattle.messages.specs.declared.Told.{Told}
use Rattle.messages.specs.Message.{FieldRead}
use Rattle.messages.specs.Names.{kind_of, line_kind, same_kind, lines_of}
use Rattle.messages.specs.Notes.{notes_of, note_of}
use Rattle.messages.proofs.Noting.{notes-more, lines_more}
use Rattle.messages.specs.declared.Kind.{Kind}
use Rattle.messages.specs.declared.Kind.TheVariants as kind
use Rattle.http1_lines.specs.Lines.{field_lens, field_parts}
use Rattle.http1_lines.specs.Read.{field_lines, after_head, request}
use Rattle.http1_lines.specs.declared.FieldLine.{FieldLine}
use Rattle.http1_lines.proofs.Views.{field-within}
use Rattle.step_lines.specs.Stepping.{so_far, line_text, one_more, next_present}
use Rattle.step_lines.specs.Entries.{host_mark, kept_text, text_of}
use Rattle.step_lines.proofs.Opening.{line-open-more, goes_on, too_long, wrong-end, next-open, text-long, text-clear}
use Rattle.step_lines.proofs.Fields.{field_at, lines-full, no-field-line, field-line-in, field-line-last}
use Rattle.step_lines.proofs.Moving.{front_of}
use Rattle.step_lines.proofs.Counting.{text-more, plain_more, plain-field, free-take}
use Rattle.steps.specs.States.{Held, held, refuse, reading, in_section, with_control, begins}
use Rattle.steps.specs.Heads.{head_end, host_from, field_noted, field_held, on_field, field_in}
use Rattle.steps.specs.Steps.{whole_by, line_octet}
use Rattle.steps.specs.Standing.{Fronted, InHead, Stands}
use Rattle.steps.specs.declared.Control.{Control}
use Rattle.steps.specs.declared.Phase.{Phase}
use Rattle.steps.specs.declared.Phase.TheVariants as phase
use Rattle.steps.specs.declared.State.{State}
use Rattle.steps.proofs.Rooms.{take-splice, part-front, put_is, line-part-is, kept-within}
use Rattle.steps.proofs.Lines.{refuses, line-ways, fronted-still}
use Rattle.steps.proofs.Starting.{stands-in, counts-still}

-- the last of lines that are one
last_one : (xs : List FieldRead) (f g : FieldRead) → xs ++ f ∷ [] ≡ g ∷ [] → f ≡ g
last_one [] f g e = ap (λ (l : List FieldRead). first_or f l) e
  where
    first_or : FieldRead → List FieldRead → FieldRead
    first_or d [] = d
    first_or d (x ∷ l) = x
last_one (x ∷ xs) f g e =
    let z : length (x ∷ (xs ++ f ∷ [])) ≡ 1 = ap (λ (l : List FieldRead). length l) e in
    absurd (omega (arith, length-append xs (f ∷ [])))

same-host : same_kind kind.Host kind.Host ≡ true
unfolding same_kind
same-host = refl

-- control data with another place and length of the authority
abbrev pub host_set : Control → ℕ → ℕ → Control
host_set c h n = record {
  scheme = c.scheme;
  given = c.given;
  method = c.method;
  host = h;
  hostlen = n;
  path = c.path;
  pathlen = c.pathlen;
  prefix = c.prefix;
  end = c.end;
}

module _ (t : Told) (st : State) (room s : List ℕ) (r : InHead t st room s) (b : ℕ) where
  -- a line that goes on
  goes : (c : ℕ) → (b ≡ 10 → ⊥) → st.present.have + 1 < st.present.left → c ≡ cr_state st.present.cr b
      → InHead t (reading st st.phase (one_more st.present c)) (set room (st.present.from + st.present.have) b) (s ++ b ∷ [])
  unfolding field_lines ◌>>=◌
  goes c e k u =
      let i = st.present.from + st.present.have in
      let f : take st.present.from (set room i b) ≡ take st.present.from room = take-set-le st.present.from room i b (omega arith) in
      let d : take st.control.end (set room i b) ≡ take st.control.end room = take-set-le st.control.end room i b (omega (arith, r.behind)) in
      record {
        common = record { good = r.common.good; scheme = r.common.scheme; counts = counts-still st st.phase r.common.counts };
        q = r.q;
        fs = r.fs;
        stands = goes_on st.present room s r.line (request t) _ r.stands b c;
        line = line-open-more st.present room s r.line b c e k u;
        count = r.count;
        allowed = r.allowed;
        notes = r.notes;
        plain = r.plain;
        behind = r.behind;
        text = f ∙ r.text ∙ ap (λ (l : List ℕ). l ++ text_of r.fs) (sym d);
        front = fronted-still st.control room (set room i b) d r.q.method r.q.path r.front;
        given = r.given;
        authority = λ g. let a = r.authority g in
            (a.0 ∙ sym (part-front room (set room i b) st.control.end st.control.host st.control.hostlen d a.1), a.1);
        host = λ x y g. let a = r.host x y g in
            (a.0 ∙ sym (part-front room (set room i b) st.present.from st.control.host st.control.hostlen f a.2), a.1, a.2);
        tally = r.tally;
        small = r.small;
      }

  wrong : b ≡ 10 → (st.present.cr ≡ 1 → ⊥) → after (request t) 0 (s ++ b ∷ []) ≡ failed bad_syntax st.present.at
  unfolding field_lines ◌>>=◌
  wrong e h = wrong-end st.present room s r.line (request t) _ r.stands b e h

  long : (b ≡ 10 → ⊥) → st.present.left ≤ st.present.have + 1 → after (request t) 0 (s ++ b ∷ []) ≡ failed too_large st.present.at
  unfolding field_lines ◌>>=◌
  long e h = too_long st.present room s r.line (request t) _ r.stands b e h

  -- a line that is whole
  module _ (e : b ≡ 10) (h : st.present.cr ≡ 1) where
    v-long : length (line_text st.present room) ≡ st.present.have - 1
    v-long = text-long st.present room s r.line b h

    clear : free 10 (line_text st.present room) ≡ true
    clear = subst (λ (l : List ℕ). free 10 l ≡ true) (text-clear st.present room s r.line b h) (free-take (st.present.have - 1) (so_far st.present room) r.line.line.clear)

    module _ (some : st.present.have - 1 ≡ 0 → ⊥) (few : st.lines < lines_most) (m c l : ℕ) (y : field_lens (line_text st.present room) ≡ Some (field_parts m c l)) where
      abbrev f : FieldRead
      f = field_at st.present.at (line_text st.present room) m c l

      some-v : length (line_text st.present room) ≡ 0 → ⊥
      some-v z = some (sym v-long ∙ z)

      sizes : (1 ≤ m) × (m < c) × (c + l ≤ st.present.have - 1)
      sizes = let w = field-within (line_text st.present room) m c l y in (w.0, w.1, omega (arith, w.2, v-long))

      abbrev name : List ℕ
      name = take m (drop st.present.from room)

      abbrev value : List ℕ
      value = take l (drop (st.present.from + c) room)

      name-is : name ≡ f.name.text
      name-is = sym (take-take m (st.present.have - 1) (drop st.present.from room) (omega (arith, sizes.1, sizes.2)))

      value-is : value ≡ f.value.text
      value-is = sym (line-part-is room st.present.from (st.present.have - 1) c l sizes.2)

      -- the line's kind k, and what is kept of it
      module _ (k : Kind) (kind-is : line_kind f ≡ k) where
        abbrev text : List ℕ
        text = kept_text k name value

        abbrev room' : List ℕ
        room' = splice room st.present.from text

        E-short : length text ≤ c + l + 1
        E-short = kept-within k room m c l st.present.from (st.present.from + c) sizes.1

        in-room : st.present.from + st.present.have < length room
        in-room = let o = r.line in omega (arith, o.fits, o.short, o.space)

        front_same : take st.present.from room' ≡ take st.present.from room
        front_same = take-splice room st.present.from text st.present.from (omega arith)

        end_same : take st.control.end room' ≡ take st.control.end room
        end_same = take-splice room st.present.from text st.control.end r.behind

        text-is : take (st.present.from + length text) room' ≡ take st.control.end room' ++ text_of (r.fs ++ f ∷ [])
        text-is =
            front_of room st.present.from text (omega (arith, E-short, sizes.2, in-room)) ∙ ap (λ (z : List ℕ). z ++ text) r.text
            ∙ append_assoc (take st.control.end room) (text_of r.fs) text
            ∙ ap₂ (λ (z w : List ℕ). z ++ (text_of r.fs ++ w)) (sym end_same) (ap₂ (kept_text k) name-is value-is ∙ ap (λ (x : Kind). kept_text x f.name.text f.value.text) (sym kind-is))
            ∙ ap (λ (z : List ℕ). take st.control.end room' ++ z) (sym (text-more r.fs f))

        notes-is : note_of true st.notes k st.present.at (st.present.at + c) value ≡ notes_of true (r.fs ++ f ∷ [])
        notes-is =
            ap (λ (z : List ℕ). note_of true st.notes k st.present.at (st.present.at + c) z) value-is
            ∙ ap₂ (λ n x. note_of true n x st.present.at (st.present.at + c) f.value.text) r.notes (sym kind-is) ∙ sym (notes-more true r.fs f)

        -- the authority's place i and length n, as they then are
        module _ (i n : ℕ) (i-small : i ≤ head_most) (n-small : n ≤ head_most) (same : st.control.given ≡ true → (i ≡ st.control.host) × (n ≡ st.control.hostlen))
            (host : (g : FieldRead) → lines_of kind.Host (r.fs ++ f ∷ []) ≡ g ∷ [] → st.control.given ≡ false
            → (g.value.text ≡ take n (drop i room')) × (st.control.end ≤ i) × (i + n ≤ st.present.from + length text)) where
          abbrev next : State
          next =
              in_section (with_control st (host_set st.control i n)) st.phase (next_present st.present (st.present.from + length text)) (st.lines + 1)
              (note_of true st.notes k st.present.at (st.present.at + c) value)

          line_kept : (st.present.left - (st.present.have + 1) ≡ 0 → ⊥) → InHead t next room' (s ++ b ∷ [])
          line_kept z =
              let o = r.line in
              let d = r.common.counts in
              record {
                common = record {
                  good = r.common.good;
                  scheme = r.common.scheme;
                  counts = record {
                    lines = omega arith;
                    host = i-small;
                    hostlen = n-small;
                    chunks = d.chunks;
                    content = d.content;
                    size = d.size;
                    trailers = d.trailers;
                  };
                };
                q = r.q;
                fs = r.fs ++ f ∷ [];
                stands = field-line-in (request t) (after_head t r.q) st.lines r.fs r.count st.present room s r.line r.stands b e h some-v few m c l y;
                line =
                    next-open st.present room s r.line b h (st.present.from + length text) room' (splice-length room st.present.from text) z (omega (arith, E-short, sizes.2));
                count = length-append r.fs (f ∷ []) ∙ omega (arith, r.count);
                allowed = omega (arith, r.allowed, o.short);
                notes = notes-is;
                plain = plain_more r.fs f r.plain (plain-field st.present.at (line_text st.present room) m c l y clear);
                behind = omega (arith, r.behind);
                text = text-is;
                front = still (fronted-still st.control room room' end_same r.q.method r.q.path r.front);
                given = r.given;
                authority = λ g. let a = r.authority g in let w = same g in (
                  a.0 ∙ sym (part-front room room' st.control.end st.control.host st.control.hostlen end_same a.1)
                      ∙ ap₂ (λ (x z : ℕ). take x (drop z room')) (sym w.1) (sym w.0),
                  omega (arith, a.1, w.0, w.1),
                );
                host = host;
                tally = r.tally;
                small = r.small;
              }
            where
              still : Fronted st.control room' r.q.method r.q.path → Fronted (host_set st.control i n) room' r.q.method r.q.path
              still x = record { method = x.method; path = x.path; prefix = x.prefix; inside = x.inside }

          next-stands : st.phase ≡ phase.FieldLine → Stands t (begins next) room' (s ++ b ∷ [])
          unfolding begins
          next-stands p = either (λ z. Stands t z room' (s ++ b ∷ [])) (eqb (st.present.left - (st.present.have + 1)) 0)
              (refuse next too_large (st.present.at + (st.present.have + 1))) next
              (λ g. refuses t next room' (s ++ b ∷ []) too_large (st.present.at + (st.present.have + 1)) r.common.good
              (field-line-last (request t) (after_head t r.q) st.lines r.fs r.count st.present room s r.line r.stands b e h some-v few m c l y
              (eqb-true (st.present.left - (st.present.have + 1)) 0 g)))
              (λ g. stands-in t next room' (s ++ b ∷ []) phase.FieldLine p (line_kept (eqb-false (st.present.left - (st.present.have + 1)) 0 g)))

        -- the authority stays where it is
        stays : ((g : FieldRead) → lines_of kind.Host (r.fs ++ f ∷ []) ≡ g ∷ [] → st.control.given ≡ false → lines_of kind.Host r.fs ≡ g ∷ []) → st.phase ≡ phase.FieldLine
            → Stands t (begins (in_section st st.phase (next_present st.present (st.present.from + length text)) (st.lines + 1)
            (note_of true st.notes k st.present.at (st.present.at + c) value))) room' (s ++ b ∷ [])
        stays w p = next-stands st.control.host st.control.hostlen r.common.counts.host r.common.counts.hostlen (λ g. (refl, refl))
            (λ g x z. let a = r.host g (w g x z) z in
            (a.0 ∙ sym (part-front room room' st.present.from st.control.host st.control.hostlen front_same a.2), a.1, omega (arith, a.2))) p

        other : same_kind k kind.Host ≡ false → (g : FieldRead) → lines_of kind.Host (r.fs ++ f ∷ []) ≡ g ∷ [] → st.control.given ≡ false → lines_of kind.Host r.fs ≡ g ∷ []
        other z g x y =
            sym (append-nil (lines_of kind.Host r.fs)) ∙ ap (λ (w : Bool). lines_of kind.Host r.fs ++ cond w (f ∷ []) []) (sym (ap (λ (u : Kind). same_kind u kind.Host) kind-is ∙ z))
            ∙ sym (lines_more kind.Host r.fs f) ∙ x

      -- a Host line: where the target has no authority, its value is kept behind a mark
      host-line : (q : line_kind f ≡ kind.Host) → st.phase ≡ phase.FieldLine
          → Stands t (begins (in_section (with_control st (host_from st.control (st.present.from + 1) l)) st.phase
          (next_present st.present (st.present.from + length (kept_text kind.Host name value))) (st.lines + 1)
          (note_of true st.notes kind.Host st.present.at (st.present.at + c) value))) (splice room st.present.from (kept_text kind.Host name value)) (s ++ b ∷ [])
      unfolding host_from
      host-line q p = either
          (λ (d : Control). Stands t (begins (in_section (with_control st d) st.phase
          (next_present st.present (st.present.from + length (kept_text kind.Host name value))) (st.lines + 1)
          (note_of true st.notes kind.Host st.present.at (st.present.at + c) value))) (splice room st.present.from (kept_text kind.Host name value)) (s ++ b ∷ []))
          st.control.given st.control (host_set st.control (st.present.from + 1) l)
          (λ g. stays kind.Host q (λ x y z. absurd (no_true (sym z ∙ g))) p)
          (λ g. next-stands kind.Host q (st.present.from + 1) l (omega (arith, r.line.fits, r.line.short)) (omega (arith, sizes.2, r.line.fits, r.line.short))
          (λ z. absurd (no_true (sym g ∙ z)))
          (λ x y z. (ap (λ (w : FieldRead). w.value.text) (sym (last_one (lines_of kind.Host r.fs) f x (lines-is q ∙ y))) ∙ sym value-is ∙ sym found, omega (arith, r.behind), omega (arith, text-size))) p)
        where
          value-long : length value ≡ l
          value-long = length-take-le l (drop (st.present.from + c) room) (omega (arith, length-drop (st.present.from + c) room, sizes.2, r.line.fits, r.line.short, r.line.space))

          text-size : length (kept_text kind.Host name value) ≡ l + 2
          text-size = omega (arith, length-append value (10 ∷ []), value-long)

          lines-is : line_kind f ≡ kind.Host → lines_of kind.Host r.fs ++ f ∷ [] ≡ lines_of kind.Host (r.fs ++ f ∷ [])
          lines-is q = ap (λ (w : Bool). lines_of kind.Host r.fs ++ cond w (f ∷ []) []) (sym (ap (λ (u : Kind). same_kind u kind.Host) q ∙ same-host)) ∙ sym (lines_more kind.Host r.fs f)

          found : take l (drop (st.present.from + 1) (splice room st.present.from (kept_text kind.Host name value))) ≡ value
          found =
              ap (take l) (sym (drop-drop 1 st.present.from (splice room st.present.from (kept_text kind.Host name value)))
              ∙ ap (drop 1) (put_is room st.present.from (host_mark ∷ value) (10 ∷ []) (omega (arith, value-long, sizes.1, sizes.2, r.line.fits, r.line.short, r.line.space))))
              ∙ take_at value _ l value-long

      by_kind : (k : Kind) → line_kind f ≡ k → st.phase ≡ phase.FieldLine
          → Stands t (field_noted st k (note_of true st.notes k st.present.at (st.present.at + c) value) l (st.present.from + length (kept_text k name value)))
          (splice room st.present.from (kept_text k name value)) (s ++ b ∷ [])
      unfolding field_noted same_kind
      by_kind kind.Ordinary q p = stays kind.Ordinary q (other kind.Ordinary q refl) p
      by_kind kind.HopByHop q p = stays kind.HopByHop q (other kind.HopByHop q refl) p
      by_kind kind.Host q p = host-line q p
      by_kind kind.ContentLength q p = stays kind.ContentLength q (other kind.ContentLength q refl) p
      by_kind kind.TransferEncoding q p = stays kind.TransferEncoding q (other kind.TransferEncoding q refl) p
      by_kind kind.Connection q p = stays kind.Connection q (other kind.Connection q refl) p

      field-stands : st.phase ≡ phase.FieldLine → Stands t (field_held st room (kind_of (map lower_of name)) m c l).state (field_held st room (kind_of (map lower_of name)) m c l).room (s ++ b ∷ [])
      unfolding field_held line_kind
      field-stands p = by_kind (kind_of (map lower_of name)) (ap (λ (w : List ℕ). kind_of (map lower_of w)) (sym name-is)) p

    -- behind a line, where the end of the head is told of
    module _ (p : st.phase ≡ phase.FieldLine) (end-in : st.present.have - 1 ≡ 0 → Stands t (head_end st room).state (head_end st room).room (s ++ b ∷ [])) where
      line-in : Stands t (field_in st room).state (field_in st room).room (s ++ b ∷ [])
      unfolding field_in
      line-in = either (λ (z : Held). Stands t z.state z.room (s ++ b ∷ [])) (eqb (st.present.have - 1) 0) (head_end st room)
          (cond (leb lines_most st.lines) (held (refuse st too_large st.present.at) room) (on_field st room (field_lens (line_text st.present room))))
          (λ g. end-in (eqb-true (st.present.have - 1) 0 g))
          (λ g. let some = eqb-false (st.present.have - 1) 0 g in
          either (λ (z : Held). Stands t z.state z.room (s ++ b ∷ [])) (leb lines_most st.lines) (held (refuse st too_large st.present.at) room)
          (on_field st room (field_lens (line_text st.present room)))
          (λ z. refuses t st room (s ++ b ∷ []) too_large st.present.at r.common.good
          (lines-full (request t) (after_head t r.q) st.lines r.fs r.count st.present room s r.line r.stands b e h (λ w. some (sym v-long ∙ w)) (leb-true lines_most st.lines z)))
          (λ z. by_field some (leb-false lines_most st.lines z) (field_lens (line_text st.present room)) refl))
        where
          by_field : (st.present.have - 1 ≡ 0 → ⊥) → st.lines < lines_most → (y : Option FieldLine) → field_lens (line_text st.present room) ≡ y
              → Stands t (on_field st room y).state (on_field st room y).room (s ++ b ∷ [])
          by_field some few (Some f) y = field-stands some few f.name f.value f.len y p
          by_field some few None y = refuses t st room (s ++ b ∷ []) bad_syntax st.present.at r.common.good
              (no-field-line (request t) (after_head t r.q) st.lines r.fs r.count st.present room s r.line r.stands b e h (λ w. some (sym v-long ∙ w)) few y)

  -- one octet more of the head, where its end is told of
  pub head-takes : (p : st.phase ≡ phase.FieldLine) → (b ≡ 10 → st.present.cr ≡ 1 → st.present.have - 1 ≡ 0 → Stands t (head_end st room).state (head_end st room).room (s ++ b ∷ []))
      → Stands t (line_octet st room b).state (line_octet st room b).room (s ++ b ∷ [])
  head-takes p end-in = line-ways st room b (λ (z : Held). Stands t z.state z.room (s ++ b ∷ []))
      (λ c g k u. stands-in t _ _ (s ++ b ∷ []) phase.FieldLine p (goes c g k u))
      (λ e h. subst (λ (x : Phase). Stands t (whole_by x st room).state (whole_by x st room).room (s ++ b ∷ [])) (sym p) (line-in e h p (end-in e h)))
      (λ e h. refuses t st room (s ++ b ∷ []) bad_syntax st.present.at r.common.good (wrong e h))
      (λ e h. refuses t st room (s ++ b ∷ []) too_large st.present.at r.common.good (long e h))
