-- The request line: one octet more of it, and the head that begins behind it.
use Rattle.std.proofs.Common.{Err, Ok, Result}
use Prim.Native.Nat.{ℕ, suc, ◌+◌, ◌-◌, ◌<◌, ◌≤◌}
use mathlib.Core.Path.{◌≡◌, refl, sym, ap, ap₂, ◌∙◌, subst}
use mathlib.Core.Bool.{Bool, true, false, not}
use mathlib.Core.Logic.{◌⊎◌, inl, inr}
use mathlib.Core.List.{List, [], ◌∷◌, ◌++◌, append-nil}
use native.Mathlib.Omega.{arith}
use borrow.Author.Tests.{not-false, eqb-true, eqb-false, leb-true}
use lib.Dec.{eqb, leb}
use lib.ListN.{length, take, drop, length-append, length-drop}
use lib.Seq.{take-take, length-take-le}
use Rattle.octets.specs.Text.{is_empty}
use Rattle.octets.specs.Class.{authority}
use Rattle.octets.specs.Limits.{head_most, lines_most, method_most, authority_most, path_most}
use Rattle.octets.specs.Refusals.{bad_syntax, too_large}
use Rattle.octets.proofs.Kit.{either, into, past, no_true}
use Rattle.script.specs.Do.{◌>>=◌, piece}
use Rattle.script.specs.Feed.{failed, after}
use Rattle.script.proofs.Feeding.{after_stop}
use Rattle.output.proofs.Laws.{splice-length}
use Rattle.messages.specs.declared.Told.{Told}
use Rattle.messages.specs.Message.{FieldRead, Start, prefix_octets}
use Rattle.messages.specs.Control.{is_host, is_options}
use Rattle.messages.specs.Notes.{no_notes}
use Rattle.messages.specs.Names.{lines_of}
use Rattle.messages.specs.declared.Kind.TheVariants as kind
use Rattle.messages.proofs.Noting.{notes-none}
use Rattle.messages.proofs.Verdicts.{method-rule, path-rule}
use Rattle.http1_lines.specs.Lines.{RequestRead, request_lens, request_of}
use Rattle.http1_lines.specs.Read.{field_lines, section, after_head, request}
use Rattle.http1_lines.specs.declared.Target.{Target}
use Rattle.http1_lines.specs.declared.RequestLine.{RequestLine}
use Rattle.http1_lines.proofs.Views.{request-view, RequestView}
use Rattle.step_lines.specs.Stepping.{line_text, next_present}
use Rattle.step_lines.specs.declared.Present.{Present}
use Rattle.step_lines.specs.Entries.{text_of}
use Rattle.step_lines.proofs.Opening.{line-open-more, goes_on, too_long, wrong-end, whole, next-open, some-octet, text-long}
use Rattle.step_lines.proofs.Fields.{section-full}
use Rattle.steps.specs.States.{refuse, reading, in_section, with_control, begins, SaneCounts}
use Rattle.steps.specs.Heads.{target_room, control_of, request_held, on_request, request_in}
use Rattle.steps.specs.Steps.{whole_by, line_octet}
use Rattle.steps.specs.Standing.{request_rest, InRequestLine, InHead, HeadRead, Stands, StandsIn}
use Rattle.steps.specs.declared.Phase.{Phase}
use Rattle.steps.specs.declared.Phase.TheVariants as phase
use Rattle.steps.specs.declared.State.{State}
use Rattle.steps.proofs.Rooms.{take-splice, put_first, put_second, line-part-is}
use Rattle.steps.proofs.Lines.{refuses, line-ways}
use Rattle.octets.specs.declared.Refusal.{Refusal}
use Rattle.http1_lines.specs.Lines.{with_target}
use Rattle.octets.specs.Refusals.{refusal_number}

pub host-most : (a : List ℕ) → is_host a ≡ true → length a ≤ authority_most
unfolding is_host
host-most a e =
    let p = past no_true (is_empty a) _ e in
    let q = into no_true (leb (length a) authority_most) _ p.1 in
    leb-true (length a) authority_most q.0

nil-cons : {f : FieldRead} → ◌≡◌ {A = List FieldRead} [] (f ∷ []) → ⊥
nil-cons e = let z : ◌≡◌ {A = ℕ} 0 1 = ap (λ (l : List FieldRead). length l) e in omega arith

-- a state in a phase
pub stands-in : (t : Told) (st : State) (room s : List ℕ) (x : Phase) → st.phase ≡ x → StandsIn t st room s x → Stands t st room s
stands-in t st room s x e r = record { by = subst (StandsIn t st room s) (sym e) r }

-- the same numbers in another state
pub counts-still : (st : State) (x : Phase) {l : _} → SaneCounts st → SaneCounts (reading st x l)
counts-still st x c = record { lines = c.lines; host = c.host; hostlen = c.hostlen; chunks = c.chunks; content = c.content; size = c.size; trailers = c.trailers }

-- a head that is read, in a state with another word
pub head-still : (t : Told) (st : State) (room s s' : List ℕ) (g : Start) (ls : List FieldRead) (x : Phase) (l : Present) → HeadRead t st room s g ls → HeadRead t (reading st x l) room s' g ls
head-still t st room s s' g ls x l h = record {
  common = record { good = h.common.good; scheme = h.common.scheme; counts = counts-still st x h.common.counts };
  keeps = h.keeps;
  space = h.space;
  headers = h.headers;
}

module _ (t : Told) (st : State) (room s : List ℕ) (r : InRequestLine t st room s) (b : ℕ) where
  abbrev v : List ℕ
  v = line_text st.present room

  -- behind the line
  rest-is : b ≡ 10 → st.present.cr ≡ 1 → after (request t) 0 (s ++ b ∷ []) ≡ after (request_rest t st.present.at (line_text st.present room)) (st.present.at + (st.present.have + 1)) []
  rest-is e h = whole st.present room s r.line (request t) (request_rest t) r.stands b e h

  module _ (e : b ≡ 10) (h : st.present.cr ≡ 1) where
    bad-is : (z : Refusal) → request_lens t.scheme (line_text st.present room) ≡ Err z → after (request t) 0 (s ++ b ∷ []) ≡ failed (refusal_number z) st.present.at
    unfolding request_of ◌>>=◌
    bad-is z x = rest-is e h ∙ rw x (after_stop _ _ _ _)

    module _ (m : ℕ) (x : Target) (y : request_lens t.scheme (line_text st.present room) ≡ Ok (with_target m x)) where
      abbrev q : RequestRead
      q = record {
        method = piece st.present.at (take m (line_text st.present room));
        path = record { prefix = x.prefix; own = piece (st.present.at + (m + 1 + x.start)) (take x.len (drop (m + 1 + x.start) (line_text st.present room))) };
        authority = piece (st.present.at + (m + 1 + x.host)) (take x.hostlen (drop (m + 1 + x.host) (line_text st.present room)));
      }

      view : RequestView (line_text st.present room) m x
      view = request-view t.scheme (line_text st.present room) m x y

      v-long : length (line_text st.present room) ≡ st.present.have - 1
      v-long = text-long st.present room s r.line b h

      good-is : after (request t) 0 (s ++ b ∷ [])
          ≡ after (field_lines (suc lines_most) (st.present.left - (st.present.have + 1)) [] >>= after_head t q) (st.present.at + (st.present.have + 1)) []
      unfolding request_of ◌>>=◌ section
      good-is =
          let d : head_most - (length (line_text st.present room) + 2) ≡ st.present.left - (st.present.have + 1) =
          omega (arith, v-long, some-octet st.present room s r.line b h, r.whole.1) in
          rest-is e h ∙ rw (y, d) refl

      -- the target in the line, and moved down
      abbrev at : ℕ
      at = st.present.from + m

      abbrev H : List ℕ
      H = take x.hostlen (drop (st.present.from + m + 1 + x.host) room)

      abbrev P : List ℕ
      P = take x.len (drop (st.present.from + m + 1 + x.start) room)

      sizes : (m + 1 + (x.start + x.len) ≤ st.present.have - 1) × (m + 1 + (x.host + x.hostlen) ≤ st.present.have - 1) × (x.hostlen ≤ x.start)
      sizes = (omega (arith, view.size, v-long), omega (arith, view.within, v-long), by view.host)
        where
          by : {Z : Type 0} → (x.hostlen ≡ 0) ⊎ (Z × (x.host + x.hostlen ≡ x.start)) → x.hostlen ≤ x.start
          by (inl z) = omega arith
          by (inr z) = omega (arith, z.1)

      inside-room : st.present.from + st.present.have ≤ length room
      inside-room = let o = r.line in omega (arith, o.fits, o.short, o.space)

      part-long : (k n : ℕ) → k + n ≤ st.present.have - 1 → length (take n (drop (st.present.from + k) room)) ≡ n
      part-long k n z = length-take-le n (drop (st.present.from + k) room) (omega (arith, length-drop (st.present.from + k) room, inside-room))

      H-is : H ≡ q.authority.text
      H-is =
          let k : st.present.from + m + 1 + x.host ≡ st.present.from + (m + 1 + x.host) = omega arith in
          ap (λ (i : ℕ). take x.hostlen (drop i room)) k ∙ sym (line-part-is room st.present.from (st.present.have - 1) (m + 1 + x.host) x.hostlen (omega (arith, sizes.1)))

      P-is : P ≡ q.path.own.text
      P-is =
          let k : st.present.from + m + 1 + x.start ≡ st.present.from + (m + 1 + x.start) = omega arith in
          ap (λ (i : ℕ). take x.len (drop i room)) k ∙ sym (line-part-is room st.present.from (st.present.have - 1) (m + 1 + x.start) x.len (omega (arith, sizes.0)))

      H-long : length H ≡ x.hostlen
      H-long =
          let k : st.present.from + m + 1 + x.host ≡ st.present.from + (m + 1 + x.host) = omega arith in
          ap (λ (i : ℕ). length (take x.hostlen (drop i room))) k ∙ part-long (m + 1 + x.host) x.hostlen (omega (arith, sizes.1))

      P-long : length P ≡ x.len
      P-long =
          let k : st.present.from + m + 1 + x.start ≡ st.present.from + (m + 1 + x.start) = omega arith in
          ap (λ (i : ℕ). length (take x.len (drop i room))) k ∙ part-long (m + 1 + x.start) x.len (omega (arith, sizes.0))

      room-long : length (target_room room at x) ≡ length room
      unfolding target_room
      room-long = splice-length room at (H ++ P)

      method-is : q.method.text ≡ take at (target_room room at x)
      unfolding target_room
      method-is =
          let z : st.present.from ≡ 0 = r.whole.2 in
          let k : at ≡ m = omega arith in
          take-take m (st.present.have - 1) (drop st.present.from room) (omega (arith, sizes.0))
          ∙ ap₂ (λ (i j : ℕ). take i (drop j room)) (sym k) z ∙ sym (take-splice room at (H ++ P) at (omega arith))

      host-is : q.authority.text ≡ take x.hostlen (drop at (target_room room at x))
      unfolding target_room
      host-is = sym H-is ∙ sym (put_first room at H P (omega (arith, H-long, P-long, sizes.0, sizes.2, inside-room)) x.hostlen (sym H-long))

      path-is : q.path.own.text ≡ take x.len (drop (at + x.hostlen) (target_room room at x))
      unfolding target_room
      path-is =
          sym P-is ∙ sym (put_second room at H P (omega (arith, H-long, P-long, sizes.0, sizes.2, inside-room)) x.len (at + x.hostlen) (sym P-long) (omega (arith, H-long)))

      -- the rules' sizes
      method-small : m ≤ method_most
      method-small = omega (arith, (method-rule (take m (line_text st.present room)) view.method).2, length-take-le m (line_text st.present room) (omega (arith, v-long, sizes.0)))

      path-small : x.len ≤ path_most
      path-small =
          let w = take x.len (drop (m + 1 + x.start) (line_text st.present room)) in
          omega (
            arith,
            (path-rule (is_options (take m (line_text st.present room))) (prefix_octets x.prefix ++ w) view.path).3,
            length-append (prefix_octets x.prefix) w,
            ap (λ (l : List ℕ). length l) (sym P-is) ∙ P-long,
          )

      host-small : x.hostlen ≤ authority_most
      host-small = by view.host
        where
          by : (x.hostlen ≡ 0) ⊎ ((is_host (take x.hostlen (drop (m + 1 + x.host) (line_text st.present room))) ≡ true) × (x.host + x.hostlen ≡ x.start)) → x.hostlen ≤ authority_most
          by (inl z) = omega arith
          by (inr z) = omega (arith, host-most (take x.hostlen (drop (m + 1 + x.host) (line_text st.present room))) z.0, ap (λ (l : List ℕ). length l) (sym H-is) ∙ H-long)

      given_is : is_empty q.authority.text ≡ not (not (eqb x.hostlen 0))
      unfolding is_empty
      given_is = ap (λ (n : ℕ). eqb n 0) (ap (λ (l : List ℕ). length l) (sym H-is) ∙ H-long) ∙ twice (eqb x.hostlen 0)
        where
          twice : (z : Bool) → z ≡ not (not z)
          twice true = refl
          twice false = refl

      abbrev next : State
      next =
          in_section (with_control st (control_of st.control.scheme at x)) phase.FieldLine (next_present st.present (at + x.hostlen + x.len)) 0 no_notes

      head-begins : (st.present.left - (st.present.have + 1) ≡ 0 → ⊥) → InHead t next (target_room room at x) (s ++ b ∷ [])
      unfolding text_of lines_of
      head-begins z =
          let c = r.common.counts in
          let o = r.line in
          record {
            common = record {
              good = r.common.good;
              scheme = r.common.scheme;
              counts = record {
                lines = omega arith;
                host = omega (arith, sizes.0, o.fits, o.short);
                hostlen = omega (arith, host-small);
                chunks = c.chunks;
                content = c.content;
                size = c.size;
                trailers = c.trailers;
              };
            };
            q = q;
            fs = [];
            stands = good-is;
            line = next-open st.present room s r.line b h (at + x.hostlen + x.len) (target_room room at x) room-long z (omega (arith, sizes.0, sizes.2));
            count = refl;
            allowed = omega (arith, r.whole.0, r.whole.1, o.short);
            notes = notes-none true;
            plain = tt;
            behind = omega arith;
            text = sym (append-nil (take (at + x.hostlen + x.len) (target_room room at x)));
            front = record { method = method-is; path = path-is; prefix = refl; inside = (omega arith, omega arith) };
            given = given_is;
            authority = λ g. (host-is, omega arith);
            host = λ f k g. absurd (no_lines f k);
            tally = r.tally;
            small = (λ g. omega (arith, method-small, path-small, host-small, r.whole.2), λ g. omega (arith, method-small, path-small, no-host g, r.whole.2));
          }
        where
          no_lines : (f : FieldRead) → lines_of kind.Host [] ≡ f ∷ [] → ⊥
          no_lines f k = nil-cons k

          no-host : not (eqb x.hostlen 0) ≡ false → x.hostlen ≡ 0
          no-host g = eqb-true x.hostlen 0 (not-false (eqb x.hostlen 0) g)

      good-stands : Stands t (request_held st room m x).state (request_held st room m x).room (s ++ b ∷ [])
      unfolding request_held begins
      good-stands = either (λ z. Stands t z (target_room room at x) (s ++ b ∷ [])) (eqb (st.present.left - (st.present.have + 1)) 0)
          (refuse next too_large (st.present.at + (st.present.have + 1))) next
          (λ g. refuses t next (target_room room at x) (s ++ b ∷ []) too_large (st.present.at + (st.present.have + 1)) r.common.good
          (good-is ∙ section-full (after_head t q) _ _ _ _ (eqb-true (st.present.left - (st.present.have + 1)) 0 g)))
          (λ g. record { by = head-begins (eqb-false (st.present.left - (st.present.have + 1)) 0 g) })

    line-in : Stands t (request_in st room).state (request_in st room).room (s ++ b ∷ [])
    unfolding request_in
    line-in = by (request_lens st.control.scheme (line_text st.present room)) (ap (λ (k : ℕ). request_lens k (line_text st.present room)) (sym r.common.scheme))
      where
        by : (y : Result RequestLine Refusal) → request_lens t.scheme (line_text st.present room) ≡ y → Stands t (on_request st room y).state (on_request st room y).room (s ++ b ∷ [])
        by (Ok l) y = good-stands l.method l.target y
        by (Err z) y = refuses t st room (s ++ b ∷ []) (refusal_number z) st.present.at r.common.good (bad-is z y)

  -- one octet more of the request line
  pub request-line-takes : st.phase ≡ phase.RequestLine → Stands t (line_octet st room b).state (line_octet st room b).room (s ++ b ∷ [])
  request-line-takes p = line-ways st room b (λ z. Stands t z.state z.room (s ++ b ∷ []))
      (λ c g k u. stands-in t _ _ (s ++ b ∷ []) phase.RequestLine p (record {
        common = record { good = r.common.good; scheme = r.common.scheme; counts = counts-still st st.phase r.common.counts };
        stands = goes_on st.present room s r.line (request t) (request_rest t) r.stands b c;
        line = line-open-more st.present room s r.line b c g k u;
        whole = r.whole;
        tally = r.tally;
      }))
      (λ e h. subst (λ (x : Phase). Stands t (whole_by x st room).state (whole_by x st room).room (s ++ b ∷ [])) (sym p) (line-in e h))
      (λ e h. refuses t st room (s ++ b ∷ []) bad_syntax st.present.at r.common.good (wrong-end st.present room s r.line (request t) (request_rest t) r.stands b e h))
      (λ e h. refuses t st room (s ++ b ∷ []) too_large st.present.at r.common.good (too_long st.present room s r.line (request t) (request_rest t) r.stands b e h))
