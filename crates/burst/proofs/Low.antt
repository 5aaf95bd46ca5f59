-- Frames of octets leave the greatest number below 2 ^ 32.
use mathlib.Core.Bool.{Bool}
use mathlib.Core.List.{List, [], ◌∷◌}
use mathlib.Core.Path.{◌≡◌, refl}
use Prim.Native.Nat.{ℕ, zero, suc, ◌<◌, ◌^◌}
use lib.ListN.{drop}
use Rattle.octets.specs.Octets.{Octets}
use Rattle.octets.proofs.Numbers.{octets_drop, octets_take}
use Rattle.wire.specs.declared.Version.{Version}
use Rattle.rows.specs.Message.{Board, Handed, draft}
use Rattle.receiver.proofs.Bounds.{draft-low}
use Rattle.frames.specs.Frames.{Note, frames_of}
use Rattle.frames.specs.Singles.{Singles, over, stops, delivers, finishes, refuses}

unfoldable AllOctets : List (List ℕ) → Type 0
AllOctets [] = ◌≡◌ {A = ℕ} 0 0
AllOctets (f ∷ fs) = Octets f × AllOctets fs

frames_octets : (ns os : List ℕ) → Octets os → AllOctets (frames_of ns os)
unfolding AllOctets frames_of
frames_octets [] os low = refl
frames_octets (n ∷ ns) os low = (octets_take n os low, frames_octets ns (drop n os) (octets_drop n os low))

drop_octets : (k : ℕ) (fs : List (List ℕ)) → AllOctets fs → AllOctets (drop k fs)
unfolding AllOctets
drop_octets zero fs h = h
drop_octets (suc k) [] h = h
drop_octets (suc k) (f ∷ fs) h = drop_octets k fs h.1

abbrev Low : Board → Type 0
Low b = b.state.greatest < 2 ^ 32

module _ (v : Version) (w : ℕ) (room : ℕ → ℕ → Bool) where
  low-after : {k place count used k' place' : ℕ} {fs : List (List ℕ)} {b after : Board} {hs : List Handed} {ns : List Note}
      → Singles (draft v) w room k fs b place count used hs ns after k' place' → AllOctets fs → Low b → Low after
  unfolding AllOctets
  low-after over h low = low
  low-after (stops e p) h low = low
  low-after (delivers {place = place} {f = f} {b = b} output n next origin big free e s) h low = low-after s h (draft-low w v b f place output h.0 low)
  low-after (finishes {place = place} {f = f} {b = b} output big free e s) h low = low-after s h.1 (draft-low w v b f place output h.0 low)
  low-after (refuses output q big free e s) h low = low-after s h.1 low

  pub singles-low : {k place count used k' place' : ℕ} {b after : Board} {hs : List Handed} {ns : List Note} (sizes octets : List ℕ)
      → Singles (draft v) w room k (drop k (frames_of sizes octets)) b place count used hs ns after k' place' → Octets octets → Low b → Low after
  singles-low {k} sizes octets s low = low-after s (drop_octets k (frames_of sizes octets) (frames_octets sizes octets low))
