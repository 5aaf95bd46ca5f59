-- The items of a frame follow one another, from its start to its end, and what holds of every message that is read holds of each.
use mathlib.Core.Path.{◌≡◌, refl, sym}
use mathlib.Core.Bool.{true, false, ◌||◌}
use mathlib.Core.List.{List, [], ◌∷◌, ◌++◌}
use Prim.Native.Nat.{ℕ, zero, suc, ◌+◌, ◌≤◌, ◌<◌}
use native.Mathlib.Omega.{arith}
use lib.ListN.{length, drop, length-drop}
use lib.Dec.{eqb}
use borrow.Author.Tests.{eq-eqb, ne_eqb}
use Rattle.octets.proofs.Flags.{or_left, or_right, cond_elim}
use Rattle.wire.specs.declared.Fault.{Fault}
use Rattle.wire.specs.Message.{Message, Read, bad, good}
use Rattle.wire.specs.Frame.{Item, Scan, broken, row, prepend, follow, Sized, none, some, scan, scanned, from, starts}
use Rattle.wire.proofs.Apart.{row-broken}

-- what holds of a message that is read at position p, and of the position behind it
pub data Each (Q : ℕ → Message → ℕ → Type 0) (p : ℕ) : Read → Type 0 where
  amiss : {r : Fault} → Each Q p (bad r)
  holds : {m : Message} {s : ℕ} → Q p m (p + s) → Each Q p (good m s)

module _ (Q : ℕ → Message → ℕ → Type 0) where
  -- the items lead from position p to position e, and Q holds of each
  unfoldable pub Along : ℕ → List Item → ℕ → Type 0
  Along p [] e = p ≡ e
  Along p (i ∷ is) e = (i.start ≡ p) × Q p i.message i.next × Along i.next is e

  along-prepend : (p s e : ℕ) (m : Message) (S : Scan) → Q p m (p + s) → ((js : List Item) → S ≡ row js → Along (p + s) js e)
      → (is : List Item) → prepend (record { start = p; next = p + s; message = m }) S ≡ row is → Along p is e
  unfolding prepend Along
  along-prepend p s e m (broken a b) q later is h = row-broken (sym h)
  along-prepend p s e m (row js) q later is h =
      let same : record { start = p; next = p + s; message = m } ∷ js ≡ is = cc in
      rw (← same) (refl, q, later js refl)

  along-read : {n : ℕ} (p e : ℕ) (r : Read) (rest : ℕ → Scan) → Sized n r → Each Q p r → ((s : ℕ) → 0 < s → s ≤ n → (js : List Item) → rest s ≡ row js → Along (p + s) js e)
      → (is : List Item) → follow p r rest ≡ row is → Along p is e
  unfolding follow
  along-read p e (bad q) rest z c later is h = row-broken (sym h)
  along-read p e (good m s) rest (some pos le) (holds q) later is h = along-prepend p s e m (rest s) q (later s pos le) is h

  module _ (reader : List ℕ → Read) (fit : (xs : List ℕ) → Sized (length xs) (reader xs)) (each : (p : ℕ) (xs : List ℕ) → Each Q p (reader xs)) where
    along_scan : (n p : ℕ) (xs : List ℕ) → length xs ≤ n → (is : List Item) → scan reader n p xs ≡ row is → Along p is (p + length xs)
    unfolding scan Along
    along_scan zero p [] h is e = let same : ◌≡◌ {A = List Item} [] is = cc in rw (← same) (omega arith)
    along_scan zero p (x ∷ xs) h is e = absurd (omega arith)
    along_scan (suc n) p [] h is e = let same : ◌≡◌ {A = List Item} [] is = cc in rw (← same) (omega arith)
    along_scan (suc n) p (x ∷ xs) h is e =
        along-read p (p + suc (length xs)) (reader (x ∷ xs)) (λ s. scan reader n (p + s) (drop s (x ∷ xs))) (fit (x ∷ xs)) (each p (x ∷ xs))
        (λ s pos le js q.
        let len = length-drop s (x ∷ xs) in
        let z : p + s + length (drop s (x ∷ xs)) ≡ p + suc (length xs) = omega arith in
        rw z at (along_scan n (p + s) (drop s (x ∷ xs)) (omega arith) js q)) is e

    pub along : (frame : List ℕ) (is : List Item) → scanned reader frame ≡ row is → Along 0 is (length frame)
    unfolding scanned
    along frame is e = let z : 0 + length frame ≡ length frame = omega arith in rw z at (along_scan (length frame) 0 frame (omega arith) is e)

-- each message takes up at least one octet
abbrev pub Leads : ℕ → List Item → ℕ → Type 0
Leads = Along (λ p m n. p < n)

each-later : {n : ℕ} (p : ℕ) {r : Read} → Sized n r → Each (λ p m n. p < n) p r
each-later p none = amiss
each-later p (some {m} {s} pos le) = holds {m = m} {s = s} (omega arith)

pub leads : (reader : List ℕ → Read) → ((xs : List ℕ) → Sized (length xs) (reader xs)) → (frame : List ℕ) (is : List Item) → scanned reader frame ≡ row is → Leads 0 is (length frame)
leads reader fit = along (λ p m n. p < n) reader fit (λ p xs. each-later p (fit xs))

-- there are no more items than octets
pub few-items : (p e : ℕ) (is : List Item) → Leads p is e → p + length is ≤ e
unfolding Along
few-items p e [] l = omega arith
few-items p e (i ∷ is) l = omega (arith, l.1, few-items i.next e is l.2)

pub few-from : (p : ℕ) (is : List Item) → length (from p is) ≤ length is
unfolding from
few-from p [] = omega arith
few-from p (i ∷ is) = cond_elim (λ (js : List Item). length js ≤ suc (length is)) (eqb i.start p) (λ _. omega arith) (λ _. omega (arith, few-from p is))

pub from_start : (p e : ℕ) (is : List Item) → Leads p is e → from p is ≡ is
unfolding Along from
from_start p e [] l = refl
from_start p e (i ∷ is) l = rw (eq-eqb i.start p l.0)

-- behind an item the next place leads on
leads_later : (p e : ℕ) (pre : List Item) (i : Item) (suf : List Item) → Leads p (pre ++ i ∷ suf) e → p < i.next
unfolding Along
leads_later p e [] i suf l = l.1
leads_later p e (j ∷ js) i suf l = let h : j.next < i.next = leads_later j.next e js i suf l.2 in omega (arith, l.1)

pub leads_behind : (p e : ℕ) (pre : List Item) (i : Item) (suf : List Item) → Leads p (pre ++ i ∷ suf) e → Leads i.next suf e
unfolding Along
leads_behind p e [] i suf l = l.2
leads_behind p e (j ∷ js) i suf l = leads_behind j.next e js i suf l.2

pub from_next : (p e : ℕ) (pre : List Item) (i : Item) (suf : List Item) → Leads p (pre ++ i ∷ suf) e → from i.next (pre ++ i ∷ suf) ≡ suf
unfolding Along from
from_next p e [] i suf l =
    let z : eqb i.start i.next ≡ false = ne_eqb i.start i.next (omega (arith, l.0, l.1)) in
    rw z (from_start i.next e suf l.2)
from_next p e (j ∷ js) i suf l =
    let h : j.next < i.next = leads_later j.next e js i suf l.2 in
    let z : eqb j.start i.next ≡ false = ne_eqb j.start i.next (omega (arith, l.0, l.1)) in
    rw z (from_next j.next e js i suf l.2)

-- the place where some last items start is good
pub good_place : (p e : ℕ) (pre suf : List Item) → Leads p suf e → (eqb p e || starts p (pre ++ suf)) ≡ true
unfolding Along starts
good_place p e pre [] l = or_left (eqb p e) (starts p (pre ++ [])) (eq-eqb p e l)
good_place p e pre (i ∷ is) l = or_right (eqb p e) (starts p (pre ++ i ∷ is)) (go pre)
  where
    go : (pre : List Item) → starts p (pre ++ i ∷ is) ≡ true
    go [] = or_left (eqb i.start p) (starts p is) (eq-eqb i.start p l.0)
    go (j ∷ js) = or_right (eqb j.start p) (starts p (js ++ i ∷ is)) (go js)
