-- Single calls on frames: how many bundles and notes they come to, and calls that go on where others stopped.
use mathlib.Core.Path.{◌≡◌, refl, ap, ◌∙◌}
use mathlib.Core.Bool.{Bool, true}
use mathlib.Core.Logic.{inl}
use mathlib.Core.List.{List, ◌∷◌, ◌++◌}
use Prim.Native.Nat.{ℕ, ◌+◌, ◌≤◌, ◌<◌}
use native.Mathlib.Omega.{arith}
use lib.ListN.{length, drop}
use lib.Seq.{drop-drop}
use lib.Dec.{ltb}
use borrow.Author.Tests.{ltb-true}
use Rattle.octets.proofs.Flags.{both}
use Rattle.rows.specs.Message.{Draft, Board, Handed}
use Rattle.messages.specs.declared.Limits.{Limits}
use Rattle.frames.specs.Frames.{Note}
use Rattle.frames.specs.Singles.{room_in, always, Singles, over, stops, delivers, finishes, refuses}

module _ (D : Draft) (w : ℕ) (limits : Limits) (size : ℕ) where
  few-more : (count used : ℕ) → room_in limits size count used ≡ true → count < limits.bundles
  few-more count used e = ltb-true count limits.bundles (both (ltb count limits.bundles) _ e).0

  -- no more bundles than the limit, and no more notes than frames
  pub few-out : {k place count used k' place' : ℕ} {fs : List (List ℕ)} {b after : Board} {hs : List Handed} {ns : List Note}
      → Singles D w (room_in limits size) k fs b place count used hs ns after k' place' → count ≤ limits.bundles → (count + length hs ≤ limits.bundles) × (length ns ≤ length fs)
  few-out over le = (omega arith, omega arith)
  few-out (stops e p) le = (omega arith, omega arith)
  few-out (delivers {count = count} {used} output n next origin big free e s) le = let h = few-out s (omega (arith, few-more count used free)) in (omega (arith, h.0), h.1)
  few-out (finishes output big free e s) le = let h = few-out s le in (h.0, omega (arith, h.1))
  few-out (refuses output q big free e s) le = let h = few-out s le in (h.0, omega (arith, h.1))

module _ (D : Draft) (w : ℕ) where
  -- single calls to their end, whatever came before
  abbrev pub Anyhow : ℕ → List (List ℕ) → Board → ℕ → List Handed → List Note → Board → ℕ → ℕ → Type 0
  Anyhow k fs b place hs ns after k' place' = (count used : ℕ) → Singles D w always k fs b place count used hs ns after k' place'

  tail_at : (k : ℕ) (all : List (List ℕ)) (f : List ℕ) (fs : List (List ℕ)) → f ∷ fs ≡ drop k all → fs ≡ drop (k + 1) all
  tail_at k all f fs e = ap (drop 1) e ∙ drop-drop 1 k all

  -- calls that stopped, and calls that go on from there
  pub go_on : (room : ℕ → ℕ → Bool) (all : List (List ℕ)) {k place count used k' place' : ℕ} {fs : List (List ℕ)} {b mid : Board} {hs : List Handed} {ns : List Note}
      → Singles D w room k fs b place count used hs ns mid k' place' → fs ≡ drop k all
      → {k'' place'' : ℕ} {hs' : List Handed} {ns' : List Note} {after : Board} → Anyhow k' (drop k' all) mid place' hs' ns' after k'' place''
      → Anyhow k fs b place (hs ++ hs') (ns ++ ns') after k'' place''
  go_on room all over e later = λ c u. rw e (later c u)
  go_on room all (stops f p) e later = λ c u. rw e (later c u)
  go_on room all (delivers output n next origin big free a s) e later = λ c u. delivers output n next origin big refl a (go_on room all s e later (c + 1) (u + n))
  go_on room all (finishes {k} {f = f} {fs} output big free a s) e later = λ c u. finishes output big (inl refl) a (go_on room all s (tail_at k all f fs e) later c u)
  go_on room all (refuses {k} {f = f} {fs} output q big free a s) e later = λ c u. refuses output q big refl a (go_on room all s (tail_at k all f fs e) later c u)
