-- Where messages stand in a well-formed frame.
use mathlib.Core.Path.{◌≡◌, refl, sym, ap, ◌∙◌}
use mathlib.Core.Bool.{true, false, ◌||◌}
use mathlib.Core.List.{List, [], ◌∷◌, ◌++◌, append_assoc}
use mathlib.Core.Logic.{◌⊎◌, inl, inr}
use Prim.Native.Nat.{ℕ}
use native.Mathlib.Omega.{arith}
use lib.ListN.{length}
use lib.Dec.{eqb}
use borrow.Author.Tests.{eqb-true}
use Rattle.octets.proofs.Flags.{bool, or_cases}
use Rattle.wire.specs.Frame.{Item, row, scanned, starts, from, Sized}
use Rattle.wire.proofs.Order.{Along, Leads, leads, from_start, from_next, leads_behind}
use Rattle.rows.specs.Message.{Draft}

-- the items from a good place on lead to the end
record Found (place e : ℕ) (is : List Item) : Type 0 where
  front : List Item
  split : is ≡ front ++ from place is
  on : Leads place (from place is) e

leads_from : (p e place : ℕ) (is : List Item) → Leads p is e → (eqb place e || starts place is) ≡ true → Found place e is
unfolding Along from starts
leads_from p e place [] l good = go (or_cases (eqb place e) false good)
  where
    go : (eqb place e ≡ true) ⊎ (false ≡ true) → Found place e []
    go (inl h) = record { front = []; split = refl; on = eqb-true place e h }
    go (inr h) = absurd (let z : ◌≡◌ {A = ℕ} 0 1 = cc in omega arith)
leads_from p e place (i ∷ is) l good = go (bool (eqb i.start place)) (λ g. leads_from i.next e place is l.2 g)
  where
    go : (eqb i.start place ≡ true) ⊎ (eqb i.start place ≡ false) → ((eqb place e || starts place is) ≡ true → Found place e is) → Found place e (i ∷ is)
    go (inl h) later = record { front = []; split = rw h; on = rw h (eqb-true i.start place h, omega (arith, l.0, l.1, eqb-true i.start place h), l.2) }
    go (inr h) later = let f = later (rw h at good) in record { front = i ∷ f.front; split = rw h (ap (λ (js : List Item). i ∷ js) f.split); on = rw h f.on }

module _ (D : Draft) (M : (xs : List ℕ) → Sized (length xs) (D.read xs)) (f : List ℕ) (all : List Item) (whole : scanned D.read f ≡ row all) where
  -- the items `rest` stand from place `at` on
  pub record At (at : ℕ) (rest : List Item) : Type 0 where
    pub front : List Item
    pub split : all ≡ front ++ rest
    pub here : from at all ≡ rest
    pub on : Leads at rest (length f)

  all-lead : Leads 0 all (length f)
  all-lead = leads D.read M f all whole

  pub at-start : At 0 all
  at-start = record { front = []; split = refl; here = from_start 0 (length f) all all-lead; on = all-lead }

  pub at_place : (place : ℕ) → (eqb place (length f) || starts place all) ≡ true → At place (from place all)
  at_place place good = let g = leads_from 0 (length f) place all all-lead good in record { front = g.front; split = g.split; here = refl; on = g.on }

  pub at_next : {at : ℕ} {rest : List Item} → At at rest → (pre : List Item) (i : Item) (suf : List Item) → rest ≡ pre ++ i ∷ suf → At i.next suf
  at_next {at} A pre i suf q =
      let cut : all ≡ (A.front ++ pre) ++ i ∷ suf = A.split ∙ ap (λ l. A.front ++ l) q ∙ sym (append_assoc A.front pre (i ∷ suf)) in
      record {
        front = (A.front ++ pre) ++ i ∷ [];
        split = cut ∙ sym (append_assoc (A.front ++ pre) (i ∷ []) suf);
        here = rw cut (from_next 0 (length f) (A.front ++ pre) i suf (rw cut at all-lead));
        on = leads_behind at (length f) pre i suf (rw q at A.on);
      }
