-- What the rules on host and lengths leave through.
use Prim.Native.Nat.{ℕ, ◌≤◌}
use mathlib.Core.Path.{◌≡◌, refl, sym, subst}
use mathlib.Core.Bool.{Bool, true, false, cond}
use mathlib.Core.List.{List, [], ◌∷◌}
use native.Mathlib.Omega.{arith}
use lib.ListN.{length}
use Rattle.std.proofs.Common.{Some, None}
use Rattle.octets.specs.Text.{same_text, is_empty}
use Rattle.octets.proofs.Texts.{same-eq}
use Rattle.script.specs.Do.{Piece, good}
use Rattle.messages.specs.Message.{FieldRead}
use Rattle.messages.specs.Control.{is_host}
use Rattle.messages.specs.Names.{lines_of}
use Rattle.messages.specs.Rules.{authority_from, or_bad_host, authority_in, nothing_stated}
use Rattle.messages.specs.declared.Body.{Body}
use Rattle.messages.specs.declared.Body.TheVariants.{Sized}
use Rattle.messages.specs.declared.Framing.{Framing}
use Rattle.messages.specs.declared.Framing.TheVariants.{Unstated, Stated, Chunked, Clashing}
use Rattle.messages.specs.declared.Kind.TheVariants as kind
use Rattle.sound.specs.Placed.{Each, Lying}
use Rattle.sound.proofs.Each.{each_of}
use Rattle.sound.proofs.Parts.{LineAt, SectionAt}

-- ---- host

-- control data have no authority: the one host line is it
pub record HostIs (fs : List FieldRead) (a : Piece) : Type 0 where
  pub line : FieldRead
  pub one : lines_of kind.Host fs ≡ line ∷ []
  pub same : a ≡ line.value
  pub good : is_host a.text ≡ true

-- control data have it: a host line, of which there is at most one, has its octets
pub record Given (q : Piece) (fs : List FieldRead) (a : Piece) : Type 0 where
  pub same : a ≡ q
  pub equal : Each (λ f. f.value.text ≡ q.text) (lines_of kind.Host fs)
  pub few : length (lines_of kind.Host fs) ≤ 1

-- the test says whether control data have none
abbrev pub AuthorityIs : Bool → Piece → List FieldRead → Piece → Type 0
AuthorityIs true q fs a = HostIs fs a
AuthorityIs false q fs a = Given q fs a

pub authority-is : (end : ℕ) (q : Piece) (fs : List FieldRead) (a : Piece) → authority_in end q fs ≡ good a → AuthorityIs (is_empty q.text) q fs a
unfolding authority_in authority_from
authority-is end q fs a e = go (lines_of kind.Host fs) refl e
  where
    none-line : lines_of kind.Host fs ≡ [] → (b : Bool) → or_bad_host end (cond b None (Some q)) ≡ good a → AuthorityIs b q fs a
    none-line l true g = let z : ◌≡◌ {A = ℕ} 0 1 = cc in absurd (omega arith)
    none-line l false g = let z : q ≡ a = cc in record { same = sym z; equal = rw l tt; few = rw l (omega arith) }

    from-line : (f : FieldRead) → lines_of kind.Host fs ≡ f ∷ [] → (b : Bool) → is_host f.value.text ≡ b
        → or_bad_host end (cond b (Some f.value) None) ≡ good a → HostIs fs a
    from-line f l true p g =
        let z : f.value ≡ a = cc in
        record { line = f; one = l; same = sym z; good = subst (λ (x : Piece). is_host x.text ≡ true) z p }
    from-line f l false p g = let z : ◌≡◌ {A = ℕ} 0 1 = cc in absurd (omega arith)

    both : (f : FieldRead) → lines_of kind.Host fs ≡ f ∷ [] → (b : Bool) → same_text f.value.text q.text ≡ b
        → or_bad_host end (cond b (Some q) None) ≡ good a → Given q fs a
    both f l true p g =
        let z : q ≡ a = cc in
        record { same = sym z; equal = rw l (same-eq f.value.text q.text p, tt); few = rw l (omega arith) }
    both f l false p g = let z : ◌≡◌ {A = ℕ} 0 1 = cc in absurd (omega arith)

    one_line : (f : FieldRead) → lines_of kind.Host fs ≡ f ∷ [] → (b : Bool)
        → or_bad_host end (cond b (cond (is_host f.value.text) (Some f.value) None) (cond (same_text f.value.text q.text) (Some q) None)) ≡ good a
        → AuthorityIs b q fs a
    one_line f l true g = from-line f l (is_host f.value.text) refl g
    one_line f l false g = both f l (same_text f.value.text q.text) refl g

    go : (hs : List FieldRead) → lines_of kind.Host fs ≡ hs → or_bad_host end (authority_from q hs) ≡ good a → AuthorityIs (is_empty q.text) q fs a
    go [] l g = none-line l (is_empty q.text) g
    go (f ∷ []) l g = one_line f l (is_empty q.text) g
    go (f ∷ x ∷ hs) l g = let z : ◌≡◌ {A = ℕ} 0 1 = cc in absurd (omega arith)

-- the authority lies in the input, as the host line does
pub host-lies : (s : List ℕ) (fs : List FieldRead) (a : Piece) → SectionAt s fs → HostIs fs a → Lying s a
host-lies s fs a h k =
    let x : Each (LineAt s) (k.line ∷ []) = rw k.one at (each_of (LineAt s) kind.Host fs h.lines) in
    subst (Lying s) (sym k.same) x.0.lies.value

-- ---- lengths

-- a head that can't have content states nothing
pub nothing-stated : (end : ℕ) (f : Framing) (b : Body) → nothing_stated end f ≡ good b → (f ≡ Unstated) × (b ≡ Sized 0)
unfolding nothing_stated
nothing-stated end Unstated b e = let z : Sized 0 ≡ b = cc in (refl, sym z)
nothing-stated end (Stated n p) b e = let z : ◌≡◌ {A = ℕ} 0 1 = cc in absurd (omega arith)
nothing-stated end Chunked b e = let z : ◌≡◌ {A = ℕ} 0 1 = cc in absurd (omega arith)
nothing-stated end Clashing b e = let z : ◌≡◌ {A = ℕ} 0 1 = cc in absurd (omega arith)
