-- The message that the numbers of a record and of lent ranges name is the one that was read; its numbers are within the source; and the steps of a loop
-- over entries.
use Prim.Native.Nat.{ℕ, zero, suc, ◌+◌, ◌-◌, ◌*◌, ◌<◌, ◌≤◌}
use mathlib.Core.Path.{◌≡◌, refl, sym, ap, ◌∙◌}
use mathlib.Core.Bool.{true, false}
use mathlib.Core.List.{List, [], ◌∷◌, ◌++◌, map, append-nil}
use native.Mathlib.Nat.{add-zero}
use native.Mathlib.Numerals.{add-one}
use native.Mathlib.Omega.{arith}
use lib.ListN.{length, get_or, length-append}
use lib.Seq.{get_or_at}
use Rattle.octets.specs.Limits.{lines_most, chunks_most, informational_most}
use Rattle.script.specs.Script.{Lies}
use Rattle.script.specs.Do.{Piece}
use Rattle.script.proofs.Places.{lies-part, lies_at, lies_in}
use Rattle.output.specs.Splice.{part, Puts, Put}
use Rattle.output.specs.Reply.{Reply, Served, Written}
use Rattle.output.proofs.Laws.{elements-take}
use Rattle.messages.specs.Message.{FieldRead, InformationalRead, Start, request_start, response_start, is_response, Message, prefix_octets}
use Rattle.messages.specs.Names.{kept, kept_trailers}
use Rattle.messages.specs.Meaning.{Meaning, field_means, informational_means, control_means, content_of, meaning}
use Rattle.messages.specs.Answers.{field_numbers, fields_numbers, chunks_numbers, informational_numbers, informational_lines, informational_in, record_from, record_of}
use Rattle.messages.proofs.Noting.{kept-few, trailers-few}
use Rattle.messages.proofs.Valid.{meaning-ok}
use Rattle.messages.specs.declared.Record.{Record}
use Rattle.sound.specs.Placed.{Each, OfLine, OfStart, Lying}
use Rattle.sound.specs.Sound.{GoodSection, GoodHeads, Sound}
use Rattle.sound.proofs.Each.{each-kept, each-trailers}
use Rattle.ranges.specs.Ranges.{Stores, Begins, Held, HeldServed}
use Rattle.ranges.specs.Entries.{field_in, entry_of, fields_in, chunks_in, fields_before, head_in, heads_in, meaning_in, EntryWithin, FieldsWithin, HeadsWithin, ChunksWithin, MessageWithin}
use Rattle.ranges.proofs.Stored.{numbers-append, numbers-length}
use Rattle.messages.specs.declared.PathPrefix.{PathPrefix}

-- ---- numbers that stand at a place

pub begins-lies : {l o : List ℕ} → Begins l o → Lies o 0 l
begins-lies h = record { front = []; back = h.others; split = h.split; long = refl }

lies-first : {o w : List ℕ} {k x : ℕ} → Lies o k (x ∷ w) → get_or o k 0 ≡ x
lies-first {o} {w} {k} {x} y = ap (λ (l : List ℕ). get_or l k 0) y.split ∙ get_or_at y.front x (w ++ y.back) 0 k y.long

pub lies-behind : {o : List ℕ} {k : ℕ} (a b : List ℕ) (n : ℕ) → n ≡ k + length a → Lies o k (a ++ b) → Lies o n b
lies-behind a b n h y = lies-part a b [] n (ap (λ (l : List ℕ). a ++ l) (sym (append-nil b))) h y

pub lies-before : {o : List ℕ} {k : ℕ} (a b : List ℕ) → Lies o k (a ++ b) → Lies o k a
lies-before {o} {k} a b y = lies-part [] a b k refl (omega arith) y

lies-next : {o w : List ℕ} {k x : ℕ} (n : ℕ) → n ≡ k + 1 → Lies o k (x ∷ w) → Lies o n w
lies-next {o} {w} {k} {x} n h y = lies-behind (x ∷ []) w n h y

-- what lies at a place is the part there
pub lies-is : {s w : List ℕ} {at : ℕ} → Lies s at w → part s at (length w) ≡ w
lies-is {s} {w} {at} y = elements-take 0 s at (length w) (lies_in y) ∙ lies_at y

pub stores-part : {o l o' : List ℕ} {a n : ℕ} → Stores o a l o' → length l ≡ n → part o' a n ≡ l
stores-part x e = rw (sym e) (lies-is x.lies)

-- ---- fields

-- fields whose numbers stand in the entries from k on, and which lie in s
pub record FieldsAt (s ranges : List ℕ) (k : ℕ) (fs : List FieldRead) : Type 0 where
  pub numbers : Lies ranges (k * 4) (fields_numbers fs)
  pub lie : Each (OfLine (Lying s)) fs

record Entry (ranges : List ℕ) (k : ℕ) (f : FieldRead) (w : List ℕ) : Type 0 where
  pub name : get_or ranges (k * 4) 0 ≡ f.name.place
  pub nlen : get_or ranges (k * 4 + 1) 0 ≡ length f.name.text
  pub value : get_or ranges (k * 4 + 2) 0 ≡ f.value.place
  pub vlen : get_or ranges (k * 4 + 3) 0 ≡ length f.value.text
  pub rest : Lies ranges ((k + 1) * 4) w

entry : (ranges : List ℕ) (k : ℕ) (f : FieldRead) (w : List ℕ) → Lies ranges (k * 4) (field_numbers f ++ w) → Entry ranges k f w
entry ranges k f w y =
    let a = lies-next (k * 4 + 1) refl y in
    let b = lies-next (k * 4 + 2) (omega arith) a in
    let c = lies-next (k * 4 + 3) (omega arith) b in
    record {
      name = lies-first y;
      nlen = lies-first a;
      value = lies-first b;
      vlen = lies-first c;
      rest = lies-next ((k + 1) * 4) (omega arith) c;
    }

module _ (s ranges : List ℕ) where
  field_is : (k : ℕ) (f : FieldRead) (w : List ℕ) → Entry ranges k f w → OfLine (Lying s) f → field_in s ranges k ≡ entry_of f
  field_is k f w e h = rw (e.name, e.nlen, e.value, e.vlen, lies-is h.name, lies-is h.value)

  pub fields-are : (k : ℕ) (fs : List FieldRead) → FieldsAt s ranges k fs → fields_in s ranges k (length fs) ≡ map entry_of fs
  unfolding fields_in fields_numbers
  fields-are k [] h = refl
  fields-are k (f ∷ fs) h =
      let e = entry ranges k f (fields_numbers fs) h.numbers in
      rw (field_is k f (fields_numbers fs) e h.lie.0, fields-are (k + 1) fs (record { numbers = e.rest; lie = h.lie.1 }))

  -- what they mean does not hang on where lines begin
  fields-mean : (k : ℕ) (fs : List FieldRead) → FieldsAt s ranges k fs → map field_means (fields_in s ranges k (length fs)) ≡ map field_means fs
  unfolding field_means
  fields-mean k fs h = rw (fields-are k fs h) (go fs)
    where
      go : (gs : List FieldRead) → map field_means (map entry_of gs) ≡ map field_means gs
      go [] = refl
      go (g ∷ gs) = rw (go gs)

  entry-within : (k : ℕ) (f : FieldRead) (w : List ℕ) → Entry ranges k f w → OfLine (Lying s) f → EntryWithin (length s) ranges k
  entry-within k f w e h =
      record {
        name = omega (arith, e.name, e.nlen, lies_in h.name);
        value = omega (arith, e.value, e.vlen, lies_in h.value);
      }

  fields-inside : (k : ℕ) (fs : List FieldRead) → FieldsAt s ranges k fs → (j : ℕ) → j < length fs → EntryWithin (length s) ranges (k + j)
  unfolding fields_numbers
  fields-inside k [] h j l = absurd (omega arith)
  fields-inside k (f ∷ fs) h zero l =
      let e = entry ranges k f (fields_numbers fs) h.numbers in
      rw (add-zero k) (entry-within k f (fields_numbers fs) e h.lie.0)
  fields-inside k (f ∷ fs) h (suc j) l =
      let e = entry ranges k f (fields_numbers fs) h.numbers in
      let q : k + suc j ≡ k + 1 + j = omega arith in
      rw q (fields-inside (k + 1) fs (record { numbers = e.rest; lie = h.lie.1 }) j (omega arith))

  pub fields_within : (k : ℕ) (fs : List FieldRead) → FieldsAt s ranges k fs → length fs ≤ lines_most → FieldsWithin (length s) ranges k (length fs)
  fields_within k fs h l =
      record {
        entries = omega (arith, lies_in h.numbers, numbers-length fs);
        few = l;
        each = fields-inside k fs h;
      }

  -- a loop over entries: where one is left at least, and where none is
  pub fields-more : (k i n : ℕ) → i < n → fields_in s ranges (k + i) (n - i) ≡ field_in s ranges (k + i) ∷ fields_in s ranges (k + (i + 1)) (n - (i + 1))
  unfolding fields_in
  fields-more k i n h =
      let e : n - i ≡ suc (n - (i + 1)) = omega arith in
      let a : k + (i + 1) ≡ k + i + 1 = omega arith in
      rw (e, a)

  pub fields-none : (k i n : ℕ) → n ≤ i → fields_in s ranges k (n - i) ≡ []
  unfolding fields_in
  fields-none k i n h = let e : n - i ≡ 0 = omega arith in rw e

-- ---- chunks

-- chunks whose numbers stand in the entries from k on, and which lie in s
pub record ChunksAt (s cs : List ℕ) (k : ℕ) (ps : List Piece) : Type 0 where
  pub numbers : Lies cs (k * 2) (chunks_numbers ps)
  pub lie : Each (Lying s) ps

module _ (s cs : List ℕ) where
  chunk_next : (k : ℕ) (p : Piece) (ps : List Piece) → ChunksAt s cs k (p ∷ ps) → ChunksAt s cs (k + 1) ps
  unfolding chunks_numbers
  chunk_next k p ps h = record {
    numbers = lies-next ((k + 1) * 2) (omega arith) (lies-next (k * 2 + 1) refl h.numbers);
    lie = h.lie.1;
  }

  chunk-first : (k : ℕ) (p : Piece) (ps : List Piece) → ChunksAt s cs k (p ∷ ps)
      → (get_or cs (k * 2) 0 ≡ p.place) × (get_or cs (k * 2 + 1) 0 ≡ length p.text)
  unfolding chunks_numbers
  chunk-first k p ps h = (lies-first h.numbers, lies-first (lies-next (k * 2 + 1) refl h.numbers))

  pub chunks-are : (k : ℕ) (ps : List Piece) → ChunksAt s cs k ps → chunks_in s cs k (length ps) ≡ ps
  unfolding chunks_in
  chunks-are k [] h = refl
  chunks-are k (p ∷ ps) h =
      let e = chunk-first k p ps h in
      rw (e.0, e.1, lies-is h.lie.0, chunks-are (k + 1) ps (chunk_next k p ps h))

  chunks-inside : (k : ℕ) (ps : List Piece) → ChunksAt s cs k ps → (j : ℕ) → j < length ps → get_or cs ((k + j) * 2) 0 + get_or cs ((k + j) * 2 + 1) 0 ≤ length s
  chunks-inside k [] h j l = absurd (omega arith)
  chunks-inside k (p ∷ ps) h zero l =
      let e = chunk-first k p ps h in
      rw (add-zero k) (omega (arith, e, lies_in h.lie.0))
  chunks-inside k (p ∷ ps) h (suc j) l =
      let q : k + suc j ≡ k + 1 + j = omega arith in
      rw q (chunks-inside (k + 1) ps (chunk_next k p ps h) j (omega arith))

  chunks_long : (ps : List Piece) → length (chunks_numbers ps) ≡ length ps * 2
  unfolding chunks_numbers
  chunks_long [] = refl
  chunks_long (p ∷ ps) = omega (arith, chunks_long ps)

  pub chunks-within : (ps : List Piece) → ChunksAt s cs 0 ps → length ps ≤ chunks_most → ChunksWithin (length s) cs (length ps)
  chunks-within ps h l = record {
    entries = omega (arith, lies_in h.numbers, chunks_long ps);
    few = l;
    each = λ j g. let z : 0 + j ≡ j = omega arith in rw z at (chunks-inside 0 ps h j g);
  }

-- ---- informational heads

-- heads whose numbers stand in ns from the head i on and in hs, and which lie in s
pub record HeadsAt (s hs ns : List ℕ) (i : ℕ) (is : List InformationalRead) : Type 0 where
  pub numbers : Lies ns (i * 2) (informational_numbers is)
  pub fields : Lies hs (fields_before ns i * 4) (fields_numbers (informational_lines is))
  pub lie : Each (λ h. Each (OfLine (Lying s)) h.lines) is

-- the first of them, and the others
record FirstHead (s hs ns : List ℕ) (i : ℕ) (h : InformationalRead) (is : List InformationalRead) : Type 0 where
  pub status : get_or ns (i * 2) 0 ≡ h.status
  pub count : get_or ns (i * 2 + 1) 0 ≡ length (kept true h.lines)
  pub at : FieldsAt s hs (fields_before ns i) (kept true h.lines)
  pub next : fields_before ns (i + 1) ≡ fields_before ns i + length (kept true h.lines)
  pub rest : HeadsAt s hs ns (i + 1) is

module _ (ns : List ℕ) where
  pub before-next : (i : ℕ) → fields_before ns (i + 1) ≡ fields_before ns i + get_or ns (i * 2 + 1) 0
  unfolding fields_before
  before-next i = rw (add-one i)

  pub before-none : fields_before ns 0 ≡ 0
  unfolding fields_before
  before-none = refl

  -- where the fields behind those of the heads begin, whose numbers stand from the head i on
  pub before-are : (i : ℕ) (is : List InformationalRead) → Lies ns (i * 2) (informational_numbers is) → fields_before ns (i + length is) ≡ fields_before ns i + length (informational_lines is)
  unfolding informational_numbers informational_lines
  before-are i [] y = rw (add-zero i) (omega arith)
  before-are i (h ∷ is) y =
      let a = lies-next (i * 2 + 1) refl y in
      let q : i + suc (length is) ≡ i + 1 + length is = omega arith in
      rw q (omega (
        arith,
        before-are (i + 1) is (lies-next ((i + 1) * 2) (omega arith) a),
        before-next i,
        lies-first a,
        length-append (kept true h.lines) (informational_lines is),
      ))

module _ (s hs ns : List ℕ) where
  first_head : (i : ℕ) (h : InformationalRead) (is : List InformationalRead) → HeadsAt s hs ns i (h ∷ is) → FirstHead s hs ns i h is
  unfolding informational_numbers informational_lines
  first_head i h is g =
      let a = lies-next (i * 2 + 1) refl g.numbers in
      let c = lies-first a in
      let n : fields_before ns (i + 1) ≡ fields_before ns i + length (kept true h.lines) = before-next ns i ∙ ap (λ (x : ℕ). fields_before ns i + x) c in
      let y = rw (numbers-append (kept true h.lines) (informational_lines is)) at g.fields in
      record {
        status = lies-first g.numbers;
        count = c;
        at = record {
          numbers = lies-before (fields_numbers (kept true h.lines)) (fields_numbers (informational_lines is)) y;
          lie = each-kept (OfLine (Lying s)) true h.lines g.lie.0;
        };
        next = n;
        rest = record {
          numbers = lies-next ((i + 1) * 2) (omega arith) a;
          fields = lies-behind (fields_numbers (kept true h.lines)) (fields_numbers (informational_lines is)) (fields_before ns (i + 1) * 4)
              (omega (arith, n, numbers-length (kept true h.lines))) y;
          lie = g.lie.1;
        };
      }

  pub heads-are : (i : ℕ) (is : List InformationalRead) → HeadsAt s hs ns i is → heads_in s hs ns i (length is) ≡ map informational_means is
  unfolding heads_in informational_means
  heads-are i [] g = refl
  heads-are i (h ∷ is) g =
      let f = first_head i h is g in
      rw (f.status, f.count, fields-mean s hs (fields_before ns i) (kept true h.lines) f.at, heads-are (i + 1) is f.rest)

  heads-inside : (i : ℕ) (is : List InformationalRead) → HeadsAt s hs ns i is → Each (λ h. GoodSection h.lines) is → (j : ℕ) → j < length is
      → FieldsWithin (length s) hs (fields_before ns (i + j)) (get_or ns ((i + j) * 2 + 1) 0)
  heads-inside i [] g w j l = absurd (omega arith)
  heads-inside i (h ∷ is) g w zero l =
      let f = first_head i h is g in
      rw (add-zero i, f.count) (fields_within s hs (fields_before ns i) (kept true h.lines) f.at (omega (arith, kept-few true h.lines, w.0.few)))
  heads-inside i (h ∷ is) g w (suc j) l =
      let f = first_head i h is g in
      let q : i + suc j ≡ i + 1 + j = omega arith in
      rw q (heads-inside (i + 1) is f.rest w.1 j (omega arith))

  heads-long : (is : List InformationalRead) → length (informational_numbers is) ≡ length is * 2
  unfolding informational_numbers
  heads-long [] = refl
  heads-long (h ∷ is) = omega (arith, heads-long is)

  pub heads-within : (is : List InformationalRead) → HeadsAt s hs ns 0 is → Each (λ h. GoodSection h.lines) is → length is ≤ informational_most
      → HeadsWithin (length s) hs ns (length is)
  heads-within is g w l = record {
    entries = omega (arith, lies_in g.numbers, heads-long is);
    few = l;
    each = λ j k. let z : 0 + j ≡ j = omega arith in rw z at (heads-inside 0 is g w j k);
  }

  pub heads-more : (i n : ℕ) → i < n → heads_in s hs ns i (n - i) ≡ head_in s hs ns i ∷ heads_in s hs ns (i + 1) (n - (i + 1))
  unfolding heads_in
  heads-more i n h = let e : n - i ≡ suc (n - (i + 1)) = omega arith in rw e

  pub heads-none : (i n : ℕ) → n ≤ i → heads_in s hs ns i (n - i) ≡ []
  unfolding heads_in
  heads-none i n h = let e : n - i ≡ 0 = omega arith in rw e

-- ---- whole messages

-- the parts of a message in the lent entries
pub record PartsAt (s : List ℕ) (x : Start) (m : Message) (hs ns cs ts : List ℕ) : Type 0 where
  pub heads : HeadsAt s hs ns 0 (informational_in x)
  pub headers : FieldsAt s hs (fields_before ns (length (informational_in x))) (kept (is_response x) m.lines)
  pub chunks : ChunksAt s cs 0 m.chunks
  pub trailers : FieldsAt s ts 0 (kept_trailers m.trailers)

lies-zero : {o w : List ℕ} (k : ℕ) → k ≡ 0 → Lies o 0 w → Lies o k w
lies-zero k e y = rw e y

start-heads : (s : List ℕ) (x : Start) → OfStart (Lying s) x → Each (λ h. Each (OfLine (Lying s)) h.lines) (informational_in x)
start-heads s (request_start method scheme authority path) h = tt
start-heads s (response_start is status) h = h

module _ {s : List ℕ} {n : ℕ} {m : Message} {r : Record} {hs ns cs ts : List ℕ} (h : Held s n m r hs ns cs ts) where
  heads-at : HeadsAt s hs ns 0 (informational_in m.start)
  heads-at =
      let y = rw (numbers-append (informational_lines (informational_in m.start)) (kept (is_response m.start) m.lines)) at (begins-lies h.fields) in
      record {
        numbers = lies-zero (0 * 2) (omega arith) (begins-lies h.informational);
        fields = lies-zero (fields_before ns 0 * 4) (omega (arith, before-none ns)) (lies-before _ _ y);
        lie = start-heads s m.start h.sound.placed.start;
      }

  pub held-parts : PartsAt s m.start m hs ns cs ts
  unfolding kept_trailers
  held-parts =
      let is : List InformationalRead = informational_in m.start in
      let y = rw (numbers-append (informational_lines is) (kept (is_response m.start) m.lines)) at (begins-lies h.fields) in
      let b = before-are ns 0 is heads-at.numbers in
      let z : 0 + length is ≡ length is = omega arith in
      let q : fields_before ns (length is) ≡ fields_before ns 0 + length (informational_lines is) = rw z at b in
      record {
        heads = heads-at;
        headers = record {
          numbers = lies-behind (fields_numbers (informational_lines is)) (fields_numbers (kept (is_response m.start) m.lines)) (fields_before ns (length is) * 4)
              (omega (arith, q, before-none ns, numbers-length (informational_lines is))) y;
          lie = each-kept (OfLine (Lying s)) (is_response m.start) m.lines h.sound.placed.lines;
        };
        chunks = record { numbers = lies-zero (0 * 2) (omega arith) (begins-lies h.chunks); lie = h.sound.placed.chunks };
        trailers = record {
          numbers = lies-zero (0 * 4) (omega arith) (begins-lies h.trailers);
          lie = each-trailers (OfLine (Lying s)) m.trailers h.sound.placed.trailers;
        };
      }

module _ (s : List ℕ) (n : ℕ) (m : Message) (hs ns cs ts : List ℕ) where
  means-with : (x : Start) → OfStart (Lying s) x → PartsAt s x m hs ns cs ts
      → meaning_in s (record_from x n m) hs ns cs ts
      ≡ record {
        control = control_means x;
        headers = map field_means (kept (is_response x) m.lines);
        content = content_of m.chunks;
        trailers = map field_means (kept_trailers m.trailers);
        stated = m.stated;
      }
  unfolding meaning_in
  means-with (request_start method scheme authority path) o p =
      rw (
        lies-is o.0,
        lies-is o.1,
        lies-is o.2,
        fields-mean s hs (fields_before ns 0) (kept false m.lines) p.headers,
        chunks-are s cs 0 m.chunks p.chunks,
        fields-mean s ts 0 (kept_trailers m.trailers) p.trailers,
      )
  means-with (response_start is status) o p =
      rw (
        heads-are s hs ns 0 is p.heads,
        fields-mean s hs (fields_before ns (length is)) (kept true m.lines) p.headers,
        chunks-are s cs 0 m.chunks p.chunks,
        fields-mean s ts 0 (kept_trailers m.trailers) p.trailers,
      )

  within-with : (x : Start) → OfStart (Lying s) x → GoodHeads x → Sound s m → PartsAt s x m hs ns cs ts → MessageWithin s (record_from x n m) hs ns cs ts
  unfolding kept_trailers meaning
  within-with (request_start method scheme authority path) o g w p = record {
    method = lies_in o.0;
    authority = lies_in o.1;
    path = lies_in o.2;
    heads = heads-within s hs ns [] p.heads tt (omega arith);
    headers = fields_within s hs (fields_before ns 0) (kept false m.lines) p.headers (omega (arith, kept-few false m.lines, w.lines.few));
    chunks = chunks-within s cs m.chunks p.chunks w.chunks.few;
    content = rw (chunks-are s cs 0 m.chunks p.chunks);
    small = (meaning-ok (meaning m) w.valid).content;
    trailers = fields_within s ts 0 (kept_trailers m.trailers) p.trailers (omega (arith, trailers-few m.trailers, w.trailers.few));
  }
  within-with (response_start is status) o g w p = record {
    method = omega arith;
    authority = omega arith;
    path = omega arith;
    heads = heads-within s hs ns is p.heads g.0 g.1;
    headers = fields_within s hs (fields_before ns (length is)) (kept true m.lines) p.headers (omega (arith, kept-few true m.lines, w.lines.few));
    chunks = chunks-within s cs m.chunks p.chunks w.chunks.few;
    content = rw (chunks-are s cs 0 m.chunks p.chunks);
    small = (meaning-ok (meaning m) w.valid).content;
    trailers = fields_within s ts 0 (kept_trailers m.trailers) p.trailers (omega (arith, trailers-few m.trailers, w.trailers.few));
  }

-- the laws that a writer needs of `Held`
module _ {s : List ℕ} {n : ℕ} {m : Message} {r : Record} {hs ns cs ts : List ℕ} (h : Held s n m r hs ns cs ts) where
  -- what the numbers name is what was read
  pub held-means : meaning_in s r hs ns cs ts ≡ meaning m
  unfolding record_of meaning
  held-means = rw h.numbers (means-with s n m hs ns cs ts m.start h.sound.placed.start (held-parts h))

  -- and the numbers are within
  pub held-within : MessageWithin s r hs ns cs ts
  unfolding record_of
  held-within = rw h.numbers (within-with s n m hs ns cs ts m.start h.sound.placed.start h.sound.heads h.sound (held-parts h))

-- so what is served of the message that the numbers name is served of whatever message they hold
pub served-held : {reply : Meaning → Reply} {s : List ℕ} {r : Record} {hs ns cs ts o o' : List ℕ} {w : Written}
    → Served (reply (meaning_in s r hs ns cs ts)) o o' w → HeldServed reply s r hs ns cs ts o o' w
served-held x = record { by = λ n m h. rw (held-means h) at x }

-- ---- paths

-- what is put before a path, put by what it is found to be
pub prefix-put : {o o₁ : List ℕ} {at r : ℕ} {p : PathPrefix} (q : PathPrefix) → p ≡ q → at + length (prefix_octets p) ≤ length o
    → Puts o at (prefix_octets q) (length (prefix_octets q)) o₁ r → Put o at (prefix_octets p) (length (prefix_octets p)) o₁ r
prefix-put q e h f = rw e (f (rw e at h))
