-- Lines without those that Connection values name: value by value, member by member.
use Prim.Native.Nat.{ℕ, suc, ◌≤◌}
use mathlib.Core.Path.{◌≡◌, refl, sym, ap, ◌∙◌}
use mathlib.Core.Bool.{Bool, true, false, cond}
use mathlib.Core.List.{List, [], ◌∷◌, ◌++◌, map}
use native.Mathlib.Omega.{arith}
use lib.ListN.{length}
use Rattle.octets.specs.Text.{lower_of}
use Rattle.messages.specs.Message.{FieldRead}
use Rattle.messages.specs.Connection.{members, is_member, any_member, is_named}
use Rattle.messages.specs.Names.{unnamed}
use Rattle.messages.proofs.Picks.{pick-itself}

-- the name of a line in lower case
abbrev pub lower_name : FieldRead → List ℕ
lower_name f = map lower_of f.name.text

-- ---- lines without those that pass a test, in order

unfoldable pub without : (FieldRead → Bool) → List FieldRead → List FieldRead
without p [] = []
without p (f ∷ fs) = cond (p f) (without p fs) (f ∷ without p fs)

module _ (p : FieldRead → Bool) where
  pub without-append : (a b : List FieldRead) → without p (a ++ b) ≡ without p a ++ without p b
  unfolding without
  without-append [] b = refl
  without-append (f ∷ a) b = rw (without-append a b) (go (p f))
    where
      go : (t : Bool) → cond t (without p a ++ without p b) (f ∷ (without p a ++ without p b)) ≡ cond t (without p a) (f ∷ without p a) ++ without p b
      go true = refl
      go false = refl

  pub without-few : (fs : List FieldRead) → length (without p fs) ≤ length fs
  unfolding without
  without-few [] = omega arith
  without-few (f ∷ fs) = go (p f) (without-few fs)
    where
      go : (t : Bool) → length (without p fs) ≤ length fs → length (cond t (without p fs) (f ∷ without p fs)) ≤ suc (length fs)
      go true h = omega arith
      go false h = omega arith

  pub without-none : ((f : FieldRead) → p f ≡ false) → (fs : List FieldRead) → without p fs ≡ fs
  unfolding without
  without-none e [] = refl
  without-none e (f ∷ fs) = rw (e f, without-none e fs)

module _ (p q : FieldRead → Bool) where
  pub without-same : ((f : FieldRead) → p f ≡ q f) → (fs : List FieldRead) → without p fs ≡ without q fs
  unfolding without
  without-same e [] = refl
  without-same e (f ∷ fs) = rw (e f, without-same e fs)

  -- one test after the other
  pub without-both : (fs : List FieldRead) → without (λ f. cond (p f) true (q f)) fs ≡ without q (without p fs)
  unfolding without
  without-both [] = refl
  without-both (f ∷ fs) = rw (without-both fs) (go (p f))
    where
      go : (t : Bool) → cond (cond t true (q f)) (without q (without p fs)) (f ∷ without q (without p fs)) ≡ without q (cond t (without p fs) (f ∷ without p fs))
      go true = refl
      go false = refl

-- ---- lines that none of these members names

abbrev pub without_one : List ℕ → List FieldRead → List FieldRead
without_one m fs = without (λ f. is_member (lower_name f) m) fs

abbrev pub without_any : List (List ℕ) → List FieldRead → List FieldRead
without_any ms fs = without (λ f. any_member (lower_name f) ms) fs

pub any_next : (m : List ℕ) (ms : List (List ℕ)) (fs : List FieldRead) → without_any (m ∷ ms) fs ≡ without_any ms (without_one m fs)
unfolding any_member
any_next m ms fs = without-both (λ f. is_member (lower_name f) m) (λ f. any_member (lower_name f) ms) fs

pub any_none : (fs : List FieldRead) → without_any [] fs ≡ fs
unfolding any_member
any_none fs = without-none (λ f. any_member (lower_name f) []) (λ f. refl) fs

-- ---- lines that none of these values names

pub unnamed-is : (vs : List (List ℕ)) (fs : List FieldRead) → unnamed vs fs ≡ without (λ f. is_named vs (lower_name f)) fs
unfolding unnamed without
unnamed-is vs [] = refl
unnamed-is vs (f ∷ fs) = rw (unnamed-is vs fs) refl

pub unnamed-append : (vs : List (List ℕ)) (a b : List FieldRead) → unnamed vs (a ++ b) ≡ unnamed vs a ++ unnamed vs b
unnamed-append vs a b = rw (unnamed-is vs (a ++ b), unnamed-is vs a, unnamed-is vs b) (without-append (λ f. is_named vs (lower_name f)) a b)

pub unnamed-few : (vs : List (List ℕ)) (fs : List FieldRead) → length (unnamed vs fs) ≤ length fs
unnamed-few vs fs = rw (unnamed-is vs fs) (without-few (λ f. is_named vs (lower_name f)) fs)

pub unnamed-none : (fs : List FieldRead) → unnamed [] fs ≡ fs
unfolding is_named
unnamed-none fs = unnamed-is [] fs ∙ without-none (λ f. is_named [] (lower_name f)) (λ f. refl) fs

-- one value: by its members
pub unnamed-one : (v : List ℕ) (fs : List FieldRead) → unnamed (v ∷ []) fs ≡ without_any (members v) fs
unfolding is_named
unnamed-one v fs =
    unnamed-is (v ∷ []) fs
    ∙ without-same (λ f. is_named (v ∷ []) (lower_name f)) (λ f. any_member (lower_name f) (members v)) (λ f. pick-itself (any_member (lower_name f) (members v))) fs

-- the first value, then the others
pub unnamed-next : (v : List ℕ) (vs : List (List ℕ)) (fs : List FieldRead) → unnamed (v ∷ vs) fs ≡ unnamed vs (unnamed (v ∷ []) fs)
unfolding is_named
unnamed-next v vs fs =
    unnamed-is (v ∷ vs) fs
    ∙ without-both (λ f. any_member (lower_name f) (members v)) (λ f. is_named vs (lower_name f)) fs
    ∙ sym (ap (unnamed vs) (unnamed-one v fs) ∙ unnamed-is vs (without_any (members v) fs))
