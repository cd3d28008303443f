-- The end of the head: the host rule, the length, the names counted, and control data left in the room.
use Prim.Native.Nat.{ℕ, zero, suc, ◌+◌, ◌-◌, ◌*◌, ◌<◌, ◌≤◌}
use mathlib.Core.Path.{◌≡◌, refl, sym, ap, ap₂, ◌∙◌, subst}
use mathlib.Core.Bool.{Bool, true, false, cond, not}
use mathlib.Core.List.{List, [], ◌∷◌, ◌++◌, append-nil}
use native.Mathlib.Omega.{arith}
use borrow.Author.Tests.{eqb-true, eqb-false, eq-eqb, ne_eqb, le-leb, leb-true, not-true}
use lib.Dec.{eqb, leb}
use lib.ListN.{length, take, drop, length-drop, length-append}
use lib.Seq.{length-take-le, drop_at, take-take}
use Rattle.octets.specs.Text.{is_empty}
use Rattle.octets.specs.Limits.{head_most, lines_most, content_most, chunks_most, chunk_line_most, method_most, path_most, authority_most}
use Rattle.octets.specs.Refusals.{bad_host, too_large}
use Rattle.octets.proofs.Kit.{either, no_true}
use Rattle.octets.proofs.Texts.{drop-take}
use Rattle.script.specs.Script.{Script, done, stop, need}
use Rattle.script.specs.Do.{◌>>=◌, Piece, piece, tell, Judged, good, wrong}
use Rattle.script.specs.Feed.{ended, failed, after}
use Rattle.script.proofs.Feeding.{after_stop, after-done}
use Rattle.script.proofs.Words.{octets-end}
use Rattle.output.specs.Splice.{splice}
use Rattle.output.proofs.Laws.{splice-length}
use Rattle.messages.specs.declared.Told.{Told}
use Rattle.messages.specs.declared.Kind.TheVariants as kind
use Rattle.messages.specs.declared.Hosts.{Hosts}
use Rattle.messages.specs.declared.Hosts.TheVariants.{Nothing, One, Several}
use Rattle.messages.specs.declared.Framing.{Framing}
use Rattle.messages.specs.declared.Framing.TheVariants.{Unstated, Stated, Chunked, Clashing}
use Rattle.messages.specs.declared.Body.{Body}
use Rattle.messages.specs.declared.Body.TheVariants.{Sized, InChunks, UntilClosed}
use Rattle.messages.specs.Message.{FieldRead, Start, request_start, plain_message, non_empty}
use Rattle.messages.specs.Control.{is_host}
use Rattle.messages.specs.Names.{lines_of, kept, kept_trailers, end_to_end}
use Rattle.messages.specs.Notes.{hosts_from, notes_of, body_answer}
use Rattle.messages.specs.Meaning.{content_of}
use Rattle.messages.specs.Rules.{authority_from, authority_in, host_once, target_authority, framing_of, request_body}
use Rattle.messages.proofs.Noting.{notes-hosts, notes-framing}
use Rattle.http1_lines.specs.Read.{Content, content, chunks_from, after_head, request}
use Rattle.step_lines.specs.Stepping.{line_text, fresh, LineOpen}
use Rattle.step_lines.specs.Entries.{text_of, entries, count_in}
use Rattle.step_lines.proofs.Opening.{text-long, some-octet, fresh-open}
use Rattle.step_lines.proofs.Fields.{section-ends}
use Rattle.step_lines.proofs.Counting.{count_kept}
use Rattle.steps.specs.States.{Held, held, refuse, finish, reading, SaneCounts}
use Rattle.steps.specs.Heads.{host_stands, hosted_by, kept_part, tally_of, host_behind, given_held, host_held, settle, content_from, on_body, head_end}
use Rattle.steps.specs.Standing.{finishing, Fronted, Keeps, Reading, InHead, HeadRead, InSized, InChunkLine, AtEnd, Stands, StandsIn, control_most}
use Rattle.steps.specs.declared.Control.{Control}
use Rattle.steps.specs.declared.Phase.TheVariants as phase
use Rattle.steps.specs.declared.State.{State}
use Rattle.steps.proofs.Rooms.{take-splice, part-front, put_first}
use Rattle.steps.proofs.Picks.{stands-given, stands_by}
use Rattle.steps.proofs.Lines.{refuses}
use Rattle.steps.proofs.Starting.{host-most, head-still}

-- what a head states of the length is not too much, and ends with no stream
size-most : (end : ℕ) (f : Framing) (n : ℕ) → request_body end f ≡ good (Sized n) → n ≤ content_most
unfolding request_body
size-most end Unstated n e = let z : 0 ≡ n = cc in omega arith
size-most end (Stated m p) n e = pick (leb m content_most) refl e
  where
    pick : (y : Bool) → leb m content_most ≡ y → cond y (good (Sized m)) (wrong too_large p) ≡ good (Sized n) → n ≤ content_most
    pick true y k = let z : m ≡ n = cc in omega (arith, leb-true m content_most y)
    pick false y k = let z : ◌≡◌ {A = ℕ} 0 1 = cc in absurd (omega arith)
size-most end Chunked n e = let z : ◌≡◌ {A = ℕ} 0 1 = cc in absurd (omega arith)
size-most end Clashing n e = let z : ◌≡◌ {A = ℕ} 0 1 = cc in absurd (omega arith)

not-open : (end : ℕ) (f : Framing) → request_body end f ≡ good UntilClosed → ⊥
unfolding request_body
not-open end Unstated e = let z : ◌≡◌ {A = ℕ} 0 1 = cc in omega arith
not-open end (Stated m p) e = pick (leb m content_most) e
  where
    pick : (y : Bool) → cond y (good (Sized m)) (wrong too_large p) ≡ good UntilClosed → ⊥
    pick true k = let z : ◌≡◌ {A = ℕ} 0 1 = cc in omega arith
    pick false k = let z : ◌≡◌ {A = ℕ} 0 1 = cc in omega arith
not-open end Chunked e = let z : ◌≡◌ {A = ℕ} 0 1 = cc in omega arith
not-open end Clashing e = let z : ◌≡◌ {A = ℕ} 0 1 = cc in omega arith

module _ (t : Told) (st : State) (room s : List ℕ) (r : InHead t st room s) (b : ℕ) (e : b ≡ 10) (h : st.present.cr ≡ 1) (none : st.present.have - 1 ≡ 0) where
  abbrev end : ℕ
  end = st.present.at + 2

  long : length (s ++ b ∷ []) ≡ st.present.at + 2
  long = length-append s (b ∷ []) ∙ omega (arith, r.line.long, none, some-octet st.present room s r.line b h)

  rest-is : after (request t) 0 (s ++ b ∷ []) ≡ after (after_head t r.q (record { lines = r.fs; end = st.present.at + 2; left = st.present.left - 2 })) (st.present.at + 2) []
  rest-is = section-ends (request t) (after_head t r.q) st.lines r.fs r.count st.present room s r.line r.stands b e h (text-long st.present room s r.line b h ∙ none)

  -- ---- the host rule

  -- the authority a, as the state has it
  record Hosted (a : Piece) : Type 0 where
    rule : target_authority (st.present.at + 2) r.q.authority r.fs ≡ good a
    given : st.control.given ≡ true → a ≡ r.q.authority
    host : st.control.given ≡ false → (a.text ≡ take st.control.hostlen (drop st.control.host room)) × (st.control.end ≤ st.control.host)
        × (st.control.host + st.control.hostlen ≤ st.present.from) × (is_host a.text ≡ true)

  empty-is : (g : Bool) → st.control.given ≡ g → is_empty r.q.authority.text ≡ not g
  empty-is g x = r.given ∙ ap not x

  module _ (Q : Bool → Type 0) (unhosted : target_authority (st.present.at + 2) r.q.authority r.fs ≡ wrong bad_host (st.present.at + 2) → Q false)
      (hosted : (a : Piece) → Hosted a → Q true) where
    by_lines : (hs : List FieldRead) → lines_of kind.Host r.fs ≡ hs → (g : Bool) → st.control.given ≡ g → Q (hosted_by (hosts_from hs) st room)
    unfolding hosts_from target_authority authority_in authority_from host_once host_stands is_empty
    by_lines [] k true x = unhosted (rw (empty-is true x, k) refl)
    by_lines [] k false x = unhosted (rw (empty-is false x, k) refl)
    by_lines (f ∷ g ∷ hs) k true x = unhosted (rw (empty-is true x, k, ne_eqb (length (f ∷ g ∷ hs)) 1 (λ z. omega arith)) refl)
    by_lines (f ∷ g ∷ hs) k false x = unhosted (rw (empty-is false x, k) refl)
    by_lines (f ∷ []) k true x =
        subst Q (stands-given st room x)
        (hosted r.q.authority (record { rule = rw (empty-is true x, k) refl; given = λ g. refl; host = λ g. absurd (no_true (sym g ∙ x)) }))
    by_lines (f ∷ []) k false x = subst Q stands-is (pick (is_host f.value.text) refl)
      where
        found : (f.value.text ≡ take st.control.hostlen (drop st.control.host room)) × (st.control.end ≤ st.control.host)
            × (st.control.host + st.control.hostlen ≤ st.present.from)
        found = r.host f k x

        stands-is : is_host f.value.text ≡ host_stands st room
        stands-is =
            let z : st.control.host + st.control.hostlen - st.control.host ≡ st.control.hostlen = omega arith in
            stands_by st room x found.1 found.2 (ap is_host found.0 ∙ ap (λ (n : ℕ). is_host (take n (drop st.control.host room))) (sym z))

        pick : (y : Bool) → is_host f.value.text ≡ y → Q y
        pick true z = hosted f.value (record { rule = rw (empty-is false x, k, z) refl; given = λ g. absurd (no_true (sym x ∙ g)); host = λ g. (found.0, found.1, found.2, z) })
        pick false z = unhosted (rw (empty-is false x, k, z) refl)

    host-rule : Q (hosted_by st.notes.hosts st room)
    host-rule =
        subst (λ (y : Hosts). Q (hosted_by y st room)) (sym (ap (λ n. n.hosts) r.notes ∙ notes-hosts true r.fs))
        (by_lines (lines_of kind.Host r.fs) refl st.control.given refl)

  -- ---- what is kept

  kept-is : kept_part st room ≡ text_of r.fs
  kept-is =
      let o = r.line in
      let l : length (take st.control.end room) ≡ st.control.end = length-take-le st.control.end room (omega (arith, r.behind, o.fits, o.space)) in
      sym (drop-take st.control.end st.present.from room) ∙ ap (drop st.control.end) r.text ∙ drop_at (take st.control.end room) (text_of r.fs) st.control.end l

  headers-is : (tally_of st room).headers ≡ length (kept false r.fs)
  headers-is = ap (λ (l : List ℕ). count_in (entries l) (entries l)) kept-is ∙ count_kept r.fs r.plain

  module _ (a : Piece) (x : Hosted a) where
    abbrev g : Start
    g = request_start r.q.method t.scheme a r.q.path

    -- the state and the room behind the head
    head-given : st.control.given ≡ true → HeadRead t (given_held st room).state (given_held st room).room (s ++ b ∷ []) g r.fs
    head-given y =
        let c = r.common.counts in
        let z = r.authority y in
        record {
          common = record {
            good = r.common.good;
            scheme = r.common.scheme;
            counts = record { lines = c.lines; host = c.host; hostlen = c.hostlen; chunks = c.chunks; content = c.content; size = c.size; trailers = c.trailers };
          };
          keeps = record {
            m = r.q.method;
            a = a;
            p = r.q.path;
            start = ap (λ (k : ℕ). request_start r.q.method k a r.q.path) (sym r.common.scheme);
            front = r.front;
            authority = ap (λ (w : Piece). w.text) (x.given y) ∙ z.0;
            inside = z.1;
            small = r.small.0 y;
          };
          space = r.line.space;
          headers = headers-is;
        }

    head-host : st.control.given ≡ false → HeadRead t (host_held st room).state (host_held st room).room (s ++ b ∷ []) g r.fs
    head-host y =
        let c = r.common.counts in
        let z = x.host y in
        let o = r.line in
        let A = take st.control.hostlen (drop st.control.host room) in
        let n : length A ≡ st.control.hostlen = length-take-le st.control.hostlen (drop st.control.host room) (omega (arith, length-drop st.control.host room, z.2, o.fits, o.space)) in
        let d : take st.control.end (splice room st.control.end A) ≡ take st.control.end room = take-splice room st.control.end A st.control.end (omega arith) in
        let k = host-most a.text z.3 in
        let w : length a.text ≡ st.control.hostlen = ap (λ (l : List ℕ). length l) z.0 ∙ n in
        let f = r.front in
        record {
          common = record {
            good = r.common.good;
            scheme = r.common.scheme;
            counts = record { lines = c.lines; host = omega (arith, r.behind, o.fits); hostlen = c.hostlen; chunks = c.chunks; content = c.content; size = c.size; trailers = c.trailers };
          };
          keeps = record {
            m = r.q.method;
            a = a;
            p = r.q.path;
            start = ap (λ (k : ℕ). request_start r.q.method k a r.q.path) (sym r.common.scheme);
            front = record {
              method = f.method ∙ sym (part-front room (splice room st.control.end A) st.control.end 0 st.control.method d (omega (arith, f.inside.0)));
              path = f.path ∙ sym (part-front room (splice room st.control.end A) st.control.end st.control.path st.control.pathlen d f.inside.1);
              prefix = f.prefix;
              inside = (omega (arith, f.inside.0), omega (arith, f.inside.1));
            };
            authority =
                z.0 ∙ sym (put_first room st.control.end A [] (omega (arith, n, z.1, z.2, o.fits, o.space)) st.control.hostlen (sym n))
                ∙ ap (λ (l : List ℕ). take st.control.hostlen (drop st.control.end (splice room st.control.end l))) (append-nil A);
            inside = omega arith;
            small = omega (arith, r.small.1 y, k, w);
          };
          space = rw (splice-length room st.control.end A) o.space;
          headers = headers-is;
        }

    head_read : HeadRead t (settle st room).state (settle st room).room (s ++ b ∷ []) g r.fs
    unfolding settle
    head_read = either (λ (z : Held). HeadRead t z.state z.room (s ++ b ∷ []) g r.fs) st.control.given (given_held st room) (host_held st room) head-given head-host

    refused-is : (n p : ℕ) → request_body (st.present.at + 2) (framing_of r.fs) ≡ wrong n p → after (request t) 0 (s ++ b ∷ []) ≡ failed n p
    unfolding after_head ◌>>=◌
    refused-is n p y = rest-is ∙ rw (x.rule, y) (after_stop _ _ _ _)

    -- ---- the content begins

    place-most : st.present.at + 2 ≤ head_most
    place-most = omega (arith, r.allowed, r.line.short, some-octet st.present room s r.line b h)

    module _ (bd : Body) (rule : request_body (st.present.at + 2) (framing_of r.fs) ≡ good bd) where
      body_is : after (request t) 0 (s ++ b ∷ []) ≡ after (content bd >>= finishing g r.fs) (st.present.at + 2) []
      unfolding after_head ◌>>=◌
      body_is = rest-is ∙ rw (x.rule, rule) refl

    module _ (z : State) (o : List ℕ) (head : HeadRead t z o (s ++ b ∷ []) g r.fs) (tally : (z.tally.chunks ≡ 0) × (z.tally.content ≡ 0) × (z.tally.trailers ≡ 0)) where
      no-trailers : length (kept_trailers []) ≡ 0
      unfolding kept_trailers end_to_end
      no-trailers = refl

      nothing-stands : (n : ℕ) → request_body (st.present.at + 2) (framing_of r.fs) ≡ good (Sized n) → n ≡ 0 → AtEnd t (finish z (st.present.at + 2) z.tally) o (s ++ b ∷ [])
      unfolding content ◌>>=◌ is_empty content_of
      nothing-stands n rule y =
          let k : st.present.at + 2 + n ≡ st.present.at + 2 = omega arith in
          record {
            message = plain_message g r.fs [] [];
            good = r.common.good;
            stands = body_is (Sized n) rule ∙ octets-end n _ (st.present.at + 2) [] (sym y) ∙ after-done _ _ _ ∙ ap (λ (i : ℕ). ended i (plain_message g r.fs [] [])) k;
            headers = head.headers;
            content = tally.1;
            trailers = tally.2 ∙ sym no-trailers;
            keeps = head.keeps;
          }

      sized-stands : (n : ℕ) → request_body (st.present.at + 2) (framing_of r.fs) ≡ good (Sized n) → n ≤ content_most → (n ≡ 0 → ⊥)
          → InSized t (reading z phase.Content (fresh (st.present.at + 2) n z.control.end)) o (s ++ b ∷ [])
      sized-stands n rule k y = record {
        g = g;
        ls = r.fs;
        head = head-still t z o (s ++ b ∷ []) (s ++ b ∷ []) g r.fs phase.Content (fresh (st.present.at + 2) n z.control.end) head;
        w = [];
        stands = body_is (Sized n) rule;
        count = refl;
        short = omega arith;
        sizes = (place-most, k);
        none = tally.2;
      }

      chunks-stand : request_body (st.present.at + 2) (framing_of r.fs) ≡ good InChunks
          → InChunkLine t (reading z phase.ChunkLine (fresh (st.present.at + 2) chunk_line_most z.control.end)) o (s ++ b ∷ [])
      unfolding content content_of chunks_from ◌>>=◌
      chunks-stand rule =
          let u : suc chunks_most ≡ suc (chunks_most - z.tally.chunks) = omega (arith, tally.0) in
          record {
            g = g;
            ls = r.fs;
            head = head-still t z o (s ++ b ∷ []) (s ++ b ∷ []) g r.fs phase.ChunkLine (fresh (st.present.at + 2) chunk_line_most z.control.end) head;
            cs = [];
            stands = body_is InChunks rule ∙ ap₂ (λ (i j : ℕ). after (chunks_from i [] j >>= finishing g r.fs) (st.present.at + 2) []) u (sym tally.1);
            line = fresh-open (st.present.at + 2) chunk_line_most z.control.end o (s ++ b ∷ []) (omega arith) long (omega (arith, head.keeps.small)) head.space;
            count = (sym tally.0, sym tally.1);
            whole = (refl, refl);
            places = omega (arith, place-most, tally.0, tally.1);
            none = tally.2;
          }

      content-stands : (bd : Body) → request_body (st.present.at + 2) (framing_of r.fs) ≡ good bd → Stands t (content_from z (st.present.at + 2) bd) o (s ++ b ∷ [])
      content-stands (Sized n) rule = either (λ (y : State). Stands t y o (s ++ b ∷ [])) (eqb n 0) (finish z (st.present.at + 2) z.tally)
          (reading z phase.Content (fresh (st.present.at + 2) n z.control.end))
          (λ y. record { by = nothing-stands n rule (eqb-true n 0 y) })
          (λ y. record { by = sized-stands n rule (size-most (st.present.at + 2) (framing_of r.fs) n rule) (eqb-false n 0 y) })
      content-stands InChunks rule = record { by = chunks-stand rule }
      content-stands UntilClosed rule = absurd (not-open (st.present.at + 2) (framing_of r.fs) rule)

    settled-tally : ((settle st room).state.tally.chunks ≡ 0) × ((settle st room).state.tally.content ≡ 0) × ((settle st room).state.tally.trailers ≡ 0)
    unfolding settle
    settled-tally = either (λ (z : Held). (z.state.tally.chunks ≡ 0) × (z.state.tally.content ≡ 0) × (z.state.tally.trailers ≡ 0)) st.control.given
        (given_held st room) (host_held st room) (λ y. r.tally) (λ y. r.tally)

    by-body : (j : Judged Body) → request_body (st.present.at + 2) (framing_of r.fs) ≡ j
        → Stands t (on_body st room (st.present.at + 2) (body_answer j)).state (on_body st room (st.present.at + 2) (body_answer j)).room (s ++ b ∷ [])
    by-body (good bd) y = content-stands (settle st room).state (settle st room).room head_read settled-tally bd y
    by-body (wrong n p) y = refuses t st room (s ++ b ∷ []) n p r.common.good (refused-is n p y)

  unhosted-is : target_authority (st.present.at + 2) r.q.authority r.fs ≡ wrong bad_host (st.present.at + 2) → after (request t) 0 (s ++ b ∷ []) ≡ failed bad_host (st.present.at + 2)
  unfolding after_head ◌>>=◌
  unhosted-is y = rest-is ∙ rw y (after_stop _ _ _ _)

  pub head-end-stands : Stands t (head_end st room).state (head_end st room).room (s ++ b ∷ [])
  unfolding head_end
  head-end-stands = host-rule
      (λ (y : Bool). Stands t (cond y (on_body st room (st.present.at + 2) (body_answer (request_body (st.present.at + 2) st.notes.framing)))
      (held (refuse st bad_host (st.present.at + 2)) room)).state (cond y (on_body st room (st.present.at + 2) (body_answer (request_body (st.present.at + 2) st.notes.framing)))
      (held (refuse st bad_host (st.present.at + 2)) room)).room (s ++ b ∷ []))
      (λ y. refuses t st room (s ++ b ∷ []) bad_host (st.present.at + 2) r.common.good (unhosted-is y))
      (λ a x. by-body a x (request_body (st.present.at + 2) st.notes.framing) (ap (request_body (st.present.at + 2)) (sym framing-is)))
    where
      framing-is : st.notes.framing ≡ framing_of r.fs
      framing-is = ap (λ n. n.framing) r.notes ∙ notes-framing r.fs
