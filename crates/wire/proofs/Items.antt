-- Going through the items of an accepted frame by reading: the next item is what is read, no reading fails, and at the end none is left.
use mathlib.Core.Path.{◌≡◌, refl, sym, ◌∙◌}
use mathlib.Core.List.{List, [], ◌∷◌}
use Prim.Native.Nat.{ℕ, ◌+◌, ◌-◌, ◌≤◌, ◌<◌}
use native.Mathlib.Omega.{arith}
use lib.ListN.{length, take, drop, drop_of_length-le}
use Rattle.std.proofs.Common.{Err, Ok}
use Rattle.wire.specs.declared.Version.{Version}
use Rattle.wire.specs.declared.Fault.{Fault}
use Rattle.wire.specs.declared.Span.{Span}
use Rattle.wire.specs.Message.{Read, bad, good, answer}
use Rattle.wire.specs.Layout.{message, read}
use Rattle.wire.specs.Frame.{Item, Scan, broken, row, prepend, follow, scan}
use Rattle.wire.proofs.Apart.{good-bad, row-broken}
use Rattle.wire.proofs.Scanning.{scan_at, stepped}
use Rattle.wire.proofs.Spans.{sized, located}

-- the item of a span that was read at a position
abbrev pub item_of : List ℕ → ℕ → Span → Item
item_of frame at m = record { start = at; next = m.end; message = message m.kind (take (m.end - m.start) (drop m.start frame)) }

pub record Next (v : Version) (frame : List ℕ) (at : ℕ) (m : Span) (is : List Item) : Type 0 where
  pub rest : List Item
  pub first : is ≡ item_of frame at m ∷ rest
  pub then : scan_at (read v) frame m.end ≡ row rest

next-prepend : (v : Version) (frame : List ℕ) (at : ℕ) (m : Span) (is : List Item) (s : Scan) → scan_at (read v) frame m.end ≡ s → prepend (item_of frame at m) s ≡ row is → Next v frame at m is
unfolding prepend
next-prepend v frame at m is (broken r p) e f = row-broken (sym f)
next-prepend v frame at m is (row js) e f = record { rest = js; first = cc; then = e }

module _ (v : Version) (frame : List ℕ) (at : ℕ) (is : List Item) (scanned : scan_at (read v) frame at ≡ row is) where
  pub next : at < length frame → (m : Span) → answer at (read v (drop at frame)) ≡ Ok m → Next v frame at m is
  unfolding follow
  next here m a =
      let l = located v frame at (omega arith) m a in
      let d : at + (m.end - at) ≡ m.end = omega (arith, l.later) in
      let e : scan_at (read v) frame at ≡ prepend (item_of frame at m) (scan_at (read v) frame m.end) = stepped (read v) (sized v) frame at here ∙ rw (l.means, d) in
      next-prepend v frame at m is (scan_at (read v) frame m.end) refl (sym e ∙ scanned)

  never_bad : {A : Type 0} (r : Read) (q : Fault) → scan_at (read v) frame at ≡ follow at r (λ (s : ℕ). scan_at (read v) frame (at + s)) → answer at r ≡ Err q → A
  unfolding follow answer
  never_bad (bad t) q e a = row-broken (sym scanned ∙ e)
  never_bad (good x s) q e a = good-bad a

  pub never : {A : Type 0} → at < length frame → (q : Fault) → answer at (read v (drop at frame)) ≡ Err q → A
  never here q a = never_bad (read v (drop at frame)) q (stepped (read v) (sized v) frame at here) a

  pub finished : length frame ≤ at → is ≡ []
  unfolding scan
  finished h = let e : scan_at (read v) frame at ≡ row [] = rw (drop_of_length-le frame h) in cc
