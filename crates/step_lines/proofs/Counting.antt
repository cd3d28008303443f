-- The entries of a text: as the code finds them, and what they count of the lines that they were kept of.
use Rattle.std.proofs.Common.{Some}
use Prim.Native.Nat.{ℕ, suc, ◌+◌, ◌-◌, ◌≤◌, ◌<◌}
use mathlib.Core.Path.{◌≡◌, refl, sym, ap, ap₂, ◌∙◌}
use mathlib.Core.Bool.{Bool, true, false, cond, not, ◌&&◌}
use mathlib.Core.Logic.{⊎_elim}
use mathlib.Core.List.{List, [], ◌∷◌, ◌++◌, map, append_assoc, append-nil}
use native.Mathlib.Omega.{arith}
use borrow.Author.Tests.{eq-eqb, ne_eqb, not-true}
use lib.Dec.{eqb}
use mir.Val.{bool_byte}
use lib.ListN.{length, get_or, take, drop, drop_of_length-le, length-drop, length-map}
use lib.Seq.{drop-drop, take_all, split_at, length-take-le}
use Rattle.octets.specs.Class.{has_class, token, is_token}
use Rattle.octets.proofs.Classes.{token-class}
use Rattle.octets.specs.Text.{span_len, all, is_other, lower_of}
use Rattle.octets.proofs.Kit.{and_split, no_true, split}
use Rattle.octets.proofs.Texts.{lower-all, all-implied, other_at, other-is, all-take-span, span-next, span-full, span-within, all_take, all_drop}
use Rattle.script.specs.Script.{free}
use Rattle.messages.specs.Message.{FieldRead}
use Rattle.messages.specs.Connection.{members, any_member, is_named}
use Rattle.messages.specs.Names.{line_kind, same_kind, lines_of, is_end_to_end, end_to_end, connection_values, unnamed, kept}
use Rattle.messages.specs.declared.Kind.{Kind}
use Rattle.messages.specs.declared.Kind.TheVariants as kind
use Rattle.http1_lines.specs.Lines.{field_lens, field_parts}
use Rattle.http1_lines.proofs.Views.{field-view}
use Rattle.step_lines.proofs.Fields.{field_at}
use Rattle.step_lines.specs.Entries.{host_mark, connection_mark, kept_text, text_of, entries, names_it, named_in, is_name, worth, count_in, PlainLine, AllPlain}

-- ---- as the code finds them

entry-on : (w rest : List ℕ) → all (is_other 10) w ≡ true → entries (w ++ 10 ∷ rest) ≡ w ∷ entries rest
unfolding entries all is_other
entry-on [] rest h = refl
entry-on (x ∷ w) rest h =
    let e = and_split (is_other 10 x) (all (is_other 10) w) h in
    rw (not-true (eqb x 10) e.0, entry-on w rest e.1) refl

entry-last : (w : List ℕ) → all (is_other 10) w ≡ true → 1 ≤ length w → entries w ≡ w ∷ []
unfolding entries all is_other
entry-last [] h l = absurd (omega arith)
entry-last (x ∷ []) h l = let e = and_split (is_other 10 x) true h in rw (not-true (eqb x 10) e.0) refl
entry-last (x ∷ y ∷ w) h l =
    let e = and_split (is_other 10 x) (all (is_other 10) (y ∷ w)) h in
    rw (not-true (eqb x 10) e.0, entry-last (y ∷ w) e.1 (omega arith)) refl

pub entries_none : (t : List ℕ) (i : ℕ) → length t ≤ i → entries (drop i t) ≡ []
unfolding entries
entries_none t i h = rw (drop_of_length-le t {i = i} h) refl

-- the entry at the place i goes up to the next LF, at e, or to the end
module _ (t : List ℕ) (i : ℕ) {e : ℕ} (q : e ≡ i + span_len (is_other 10) (drop i t)) (h : i < length t) where
  size : e - i ≡ span_len (is_other 10) (drop i t)
  size = omega (arith, q)

  long : length (drop i t) ≡ length t - i
  long = length-drop i t

  pub entry-from : entries (drop i t) ≡ take (e - i) (drop i t) ∷ entries (drop (e + 1) t)
  entry-from = ⊎_elim (λ (g : e < length t). on g) (λ (g : length t ≤ e). last g) (split e (length t))
    where
      on : e < length t → entries (drop i t) ≡ take (e - i) (drop i t) ∷ entries (drop (e + 1) t)
      on g =
          let n = span_len (is_other 10) (drop i t) in
          let b : n < length (drop i t) = omega (arith, size, long) in
          let x : get_or (drop i t) n 0 ≡ 10 = other_at 10 _ (span-next (is_other 10) (drop i t) b) in
          let k : i + suc n ≡ e + 1 = omega (arith, size, q) in
          ap entries (split_at (drop i t) n 0 b ∙ ap (λ (y : ℕ). take n (drop i t) ++ y ∷ drop (suc n) (drop i t)) x)
          ∙ entry-on (take n (drop i t)) (drop (suc n) (drop i t)) (all-take-span (is_other 10) (drop i t))
          ∙ ap₂ (λ (a : ℕ) (w : List ℕ). take a (drop i t) ∷ entries w) (sym size) (drop-drop (suc n) i t ∙ ap (λ (j : ℕ). drop j t) k)

      last : length t ≤ e → entries (drop i t) ≡ take (e - i) (drop i t) ∷ entries (drop (e + 1) t)
      last g =
          let w = span-within (is_other 10) (drop i t) in
          let b : span_len (is_other 10) (drop i t) ≡ length (drop i t) = omega (arith, size, long, w) in
          let c : length (drop i t) ≤ e - i = omega (arith, size, long) in
          rw (take_all (e - i) (drop i t) c, entries_none t (e + 1) (omega arith))
          (entry-last (drop i t) (span-full (is_other 10) (drop i t) b) (omega (arith, long)))

  -- the loops
  module _ (n : List ℕ) {w : Bool} (inv : w ≡ named_in (entries (drop i t)) n) {r : Bool} (y : r ≡ names_it n (take (e - i) (drop i t))) where
    pub named-found : r ≡ true → true ≡ w
    unfolding named_in
    named-found x = sym (inv ∙ rw (entry-from, ← y, x))

    pub named_more : r ≡ false → w ≡ named_in (entries (drop (e + 1) t)) n
    unfolding named_in
    named_more x = inv ∙ rw (entry-from, ← y, x)

  module _ (es : List (List ℕ)) {w : ℕ} (n : ℕ) (inv : w ≡ n + count_in es (entries (drop i t))) {r : ℕ} (y : r ≡ worth es (take (e - i) (drop i t))) where
    pub count-more : w ≡ (n + r) + count_in es (entries (drop (e + 1) t))
    unfolding count_in
    count-more = inv ∙ rw (entry-from, ← y) (omega arith)

pub named_none : (t : List ℕ) (i : ℕ) (n : List ℕ) {w : Bool} → length t ≤ i → w ≡ named_in (entries (drop i t)) n → false ≡ w
unfolding named_in
named_none t i n h inv = sym (inv ∙ rw (entries_none t i h))

pub count_none : (t : List ℕ) (i : ℕ) (es : List (List ℕ)) {w : ℕ} (n : ℕ) → length t ≤ i → w ≡ n + count_in es (entries (drop i t)) → n ≡ w
unfolding count_in
count_none t i es n h inv = sym (inv ∙ rw (entries_none t i h) (omega arith))

-- ---- one entry, as the code sees it

module _ (n : List ℕ) where
  pub does-none : (e : List ℕ) → length e ≡ 0 → false ≡ names_it n e
  unfolding names_it
  does-none [] h = refl
  does-none (b ∷ v) h = absurd (omega arith)

  pub does-some : (e : List ℕ) → (length e ≡ 0 → ⊥) → get_or e 0 0 ≡ connection_mark → {r : Bool} → r ≡ any_member n (members (take (length e - 1) (drop 1 e))) → r ≡ names_it n e
  unfolding names_it
  does-some [] h x y = absurd (h refl)
  does-some (b ∷ v) h x y = y ∙ ap (λ (l : List ℕ). any_member n (members l)) (take_all (length (b ∷ v) - 1) v (omega arith)) ∙ rw (eq-eqb b connection_mark x)

  pub does-other : (e : List ℕ) → (length e ≡ 0 → ⊥) → (get_or e 0 0 ≡ connection_mark → ⊥) → false ≡ names_it n e
  unfolding names_it
  does-other [] h x = refl
  does-other (b ∷ v) h x = rw (ne_eqb b connection_mark x)

pub name-none : (e : List ℕ) → length e ≡ 0 → false ≡ is_name e
unfolding is_name
name-none [] h = refl
name-none (b ∷ v) h = absurd (omega arith)

pub name-connection : (e : List ℕ) → (length e ≡ 0 → ⊥) → get_or e 0 0 ≡ connection_mark → false ≡ is_name e
unfolding is_name
name-connection [] h x = refl
name-connection (b ∷ v) h x = rw (eq-eqb b connection_mark x)

pub name-host : (e : List ℕ) → (length e ≡ 0 → ⊥) → (get_or e 0 0 ≡ connection_mark → ⊥) → get_or e 0 0 ≡ host_mark → false ≡ is_name e
unfolding is_name
name-host [] h x y = refl
name-host (b ∷ v) h x y = rw (ne_eqb b connection_mark x, eq-eqb b host_mark y)

pub name-some : (e : List ℕ) → (length e ≡ 0 → ⊥) → (get_or e 0 0 ≡ connection_mark → ⊥) → (get_or e 0 0 ≡ host_mark → ⊥) → true ≡ is_name e
unfolding is_name
name-some [] h x y = absurd (h refl)
name-some (b ∷ v) h x y = rw (ne_eqb b connection_mark x, ne_eqb b host_mark y)

module _ (es : List (List ℕ)) (e : List ℕ) {p : Bool} (i : p ≡ is_name e) where
  pub worth-not : p ≡ false → {r : Bool} {n : ℕ} → r ≡ p → n ≡ bool_byte r → (n ≡ worth es e) × (n ≤ 1)
  unfolding worth
  worth-not x {r} {n} er en =
      let z : n ≡ 0 = en ∙ ap bool_byte (er ∙ x) in
      (z ∙ rw (← i, x), omega (arith, z))

  pub worth-by : p ≡ true → (q : Bool) → q ≡ named_in es e → {r : Bool} {n : ℕ} → r ≡ not q → n ≡ bool_byte r → (n ≡ worth es e) × (n ≤ 1)
  unfolding worth
  worth-by x true y {r} {n} er en =
      let z : n ≡ 0 = en ∙ ap bool_byte er in
      (z ∙ rw (← i, x, ← y), omega (arith, z))
  worth-by x false y {r} {n} er en =
      let z : n ≡ 1 = en ∙ ap bool_byte er in
      (z ∙ rw (← i, x, ← y), omega (arith, z))

-- ---- what they count

free_other : (w : List ℕ) → free 10 w ≡ all (is_other 10) w
unfolding free all is_other
free_other [] = refl
free_other (x ∷ w) = ap (λ (t : Bool). not (eqb x 10) && t) (free_other w)

-- an octet of a token is no LF and no mark
token-other : (b d : ℕ) → has_class token d ≡ false → has_class token b ≡ true → (b ≡ d → ⊥)
token-other b d e h q = no_true (sym e ∙ ap (has_class token) (sym q) ∙ h)

no-token : (has_class token 10 ≡ false) × (has_class token connection_mark ≡ false) × (has_class token host_mark ≡ false)
unfolding is_token
no-token = (token-class 10, token-class connection_mark, token-class host_mark)

name-other : (n : List ℕ) → all (has_class token) n ≡ true → all (is_other 10) (map lower_of n) ≡ true
name-other n h = all-implied (has_class token) (is_other 10) (λ b k. other-is 10 b (token-other b 10 no-token.0 k)) (map lower_of n) (lower-all token n ∙ h)

-- a name, in lower case
module _ (b : ℕ) (w : List ℕ) (h : all (has_class token) (b ∷ w) ≡ true) where
  first : has_class token b ≡ true
  unfolding all
  first = (and_split (has_class token b) (all (has_class token) w) h).0

  plain-name : is_name (b ∷ w) ≡ true
  unfolding is_name
  plain-name = rw (ne_eqb b connection_mark (token-other b connection_mark no-token.1 first), ne_eqb b host_mark (token-other b host_mark no-token.2 first))

  names-none : (n : List ℕ) → names_it n (b ∷ w) ≡ false
  unfolding names_it
  names-none n = rw (ne_eqb b connection_mark (token-other b connection_mark no-token.1 first))

-- one entry more in front, behind which stands LF
module _ (w t : List ℕ) (h : all (is_other 10) w ≡ true) where
  entry-front : entries ((w ++ 10 ∷ []) ++ t) ≡ w ∷ entries t
  entry-front = ap entries (append_assoc w (10 ∷ []) t) ∙ entry-on w t h

value-front : (b : ℕ) (v t : List ℕ) → (b ≡ 10 → ⊥) → free 10 v ≡ true → entries ((b ∷ (v ++ 10 ∷ [])) ++ t) ≡ (b ∷ v) ∷ entries t
unfolding all
value-front b v t e h = entry-front (b ∷ v) t (rw (other-is 10 b e) (sym (free_other v) ∙ h))

-- ---- by the lines: what Connection names, and how many names are left

names-not : (n w : List ℕ) → all (has_class token) w ≡ true → names_it n w ≡ false
unfolding names_it
names-not n [] h = refl
names-not n (b ∷ w) h = names-none b w h n

is-name : (w : List ℕ) → all (has_class token) w ≡ true → 1 ≤ length w → is_name w ≡ true
is-name [] h l = absurd (omega arith)
is-name (b ∷ w) h l = plain-name b w h

module _ (f : FieldRead) (p : PlainLine f) where
  lower-token : all (has_class token) (map lower_of f.name.text) ≡ true
  lower-token = lower-all token f.name.text ∙ p.name

  lower-some : 1 ≤ length (map lower_of f.name.text)
  lower-some = omega (arith, length-map f.name.text lower_of, p.some)

  name-first : (t : List ℕ) → entries ((map lower_of f.name.text ++ 10 ∷ []) ++ t) ≡ map lower_of f.name.text ∷ entries t
  name-first t = entry-front (map lower_of f.name.text) t (name-other f.name.text p.name)

  host-first : (t : List ℕ) → entries ((host_mark ∷ (f.value.text ++ 10 ∷ [])) ++ t) ≡ (host_mark ∷ f.value.text) ∷ entries t
  host-first t = value-front host_mark f.value.text t (λ e. omega arith) p.value

  connection-first : (t : List ℕ) → entries ((connection_mark ∷ (f.value.text ++ 10 ∷ [])) ++ t) ≡ (connection_mark ∷ f.value.text) ∷ entries t
  connection-first t = value-front connection_mark f.value.text t (λ e. omega arith) p.value

named_by : (n : List ℕ) (fs : List FieldRead) → AllPlain fs → named_in (entries (text_of fs)) n ≡ is_named (connection_values fs) n
unfolding text_of connection_values lines_of named_in is_named entries same_kind names_it
named_by n [] p = refl
named_by n (f ∷ fs) p = go (line_kind f) (named_by n fs p.1)
  where
    go : (k : Kind) → named_in (entries (text_of fs)) n ≡ is_named (connection_values fs) n → named_in (entries (kept_text k f.name.text f.value.text ++ text_of fs)) n
        ≡ is_named (map (λ g. g.value.text) (cond (same_kind k kind.Connection) (f ∷ lines_of kind.Connection fs) (lines_of kind.Connection fs))) n
    go kind.Ordinary ih = rw (name-first f p.0 (text_of fs), names-not n (map lower_of f.name.text) (lower-token f p.0)) ih
    go kind.HopByHop ih = ih
    go kind.Host ih = rw (host-first f p.0 (text_of fs)) ih
    go kind.ContentLength ih = ih
    go kind.TransferEncoding ih = ih
    go kind.Connection ih = rw (connection-first f p.0 (text_of fs)) (ap (λ (t : Bool). cond (any_member n (members f.value.text)) true t) ih)

module _ (es vs : List (List ℕ)) (same : (n : List ℕ) → named_in es n ≡ is_named vs n) where
  count_by : (fs : List FieldRead) → AllPlain fs → count_in es (entries (text_of fs)) ≡ length (unnamed vs (end_to_end false fs))
  unfolding text_of entries count_in end_to_end unnamed worth is_name
  count_by [] p = refl
  count_by (f ∷ fs) p = go (line_kind f) (count_by fs p.1)
    where
      pick : (b : Bool) (x : ℕ) (gs : List FieldRead) → x ≡ length gs → cond b 0 1 + x ≡ length (cond b gs (f ∷ gs))
      pick true x gs e = omega arith
      pick false x gs e = omega arith

      go : (k : Kind) → count_in es (entries (text_of fs)) ≡ length (unnamed vs (end_to_end false fs)) → count_in es (entries (kept_text k f.name.text f.value.text ++ text_of fs))
          ≡ length (unnamed vs (cond (is_end_to_end false k) (f ∷ end_to_end false fs) (end_to_end false fs)))
      go kind.Ordinary ih =
          rw (name-first f p.0 (text_of fs), is-name (map lower_of f.name.text) (lower-token f p.0) (lower-some f p.0), same (map lower_of f.name.text))
          (pick (is_named vs (map lower_of f.name.text)) _ (unnamed vs (end_to_end false fs)) ih)
      go kind.HopByHop ih = ih
      go kind.Host ih = rw (host-first f p.0 (text_of fs)) (omega arith)
      go kind.ContentLength ih = ih
      go kind.TransferEncoding ih = ih
      go kind.Connection ih = rw (connection-first f p.0 (text_of fs)) (omega arith)

-- the names that are counted are the header fields that are kept (02, item 3)
pub count_kept : (fs : List FieldRead) → AllPlain fs → count_in (entries (text_of fs)) (entries (text_of fs)) ≡ length (kept false fs)
unfolding kept
count_kept fs p = count_by (entries (text_of fs)) (connection_values fs) (λ n. named_by n fs p) fs p

-- ---- one line more

pub text-more : (fs : List FieldRead) (f : FieldRead) → text_of (fs ++ f ∷ []) ≡ text_of fs ++ kept_text (line_kind f) f.name.text f.value.text
unfolding text_of
text-more [] f = append-nil _
text-more (g ∷ fs) f = rw (text-more fs f) (sym (append_assoc (kept_text (line_kind g) g.name.text g.value.text) (text_of fs) _))

pub plain_more : (fs : List FieldRead) (f : FieldRead) → AllPlain fs → PlainLine f → AllPlain (fs ++ f ∷ [])
plain_more [] f p q = (q, tt)
plain_more (g ∷ fs) f p q = (p.0, plain_more fs f p.1 q)

free_part : (l c : ℕ) (w : List ℕ) → free 10 w ≡ true → free 10 (take l (drop c w)) ≡ true
free_part l c w h = free_other (take l (drop c w)) ∙ all_take (is_other 10) l (drop c w) (all_drop (is_other 10) c w (sym (free_other w) ∙ h))

pub free-take : (l : ℕ) (w : List ℕ) → free 10 w ≡ true → free 10 (take l w) ≡ true
free-take l w h = free_other (take l w) ∙ all_take (is_other 10) l w (sym (free_other w) ∙ h)

pub plain-field : (at : ℕ) (v : List ℕ) (m c l : ℕ) → field_lens v ≡ Some (field_parts m c l) → free 10 v ≡ true → PlainLine (field_at at v m c l)
plain-field at v m c l e h =
    let g = field-view v m c l e in
    record {
      name = g.name;
      some = omega (arith, length-take-le m v (omega (arith, g.before, g.within)), g.some);
      value = free_part l c v h;
    }
