-- Demand 3, once over both drafts and the windows 4, 8 and 16, and for the receiver of document 01.
use mathlib.Core.Path.{◌≡◌, refl, ap}
use mathlib.Core.List.Memᴰ
use mathlib.Core.List.{List, [], ◌∷◌, ◌++◌, append-nil, append_assoc, Memᴰ}
use Prim.Native.Nat.{ℕ, ◌-◌}
use native.Mathlib.Omega.{arith}
use Rattle.std.proofs.Common.{Some}
use Rattle.wire.specs.Message.{Message}
use Rattle.wire.specs.Frame.{messages}
use Rattle.wire.proofs.Spans.{sized}
use Rattle.window.specs.Window.{Window}
use Rattle.wire.specs.declared.Version.{Version}
use Rattle.rows.specs.Message.{Draft, draft, Board}
use Rattle.claims.specs.Record.{Transfers, Record}
use Rattle.claims.specs.Calls.{Delivery, Entry, handed_of}
use Rattle.claims.specs.Demand3.{delivery, NoneBehind, places, messages_of, NoCancel, With, none, same, more, Kept, InRecord, OfRecord, content, joined, Reception, Demand3}
use Rattle.rows.specs.Messages.{board_after}
use Rattle.claims.proofs.Track.{Course, begin, event, bundle_at, course_after, given_by}
use Rattle.claims.proofs.Window.{window_size}
use Rattle.claims.proofs.Boards.{Tied, run-tied, fresh-tied}
use Rattle.claims.proofs.Taking.{entries_of, frames_of, determined, calls-as}
use Rattle.claims.proofs.Given as Given
use Rattle.claims.proofs.Given.{Expected, expected, Known, plain, numbered, Backed, given-run, given-begin}
use Rattle.claims.proofs.Ahead.{Ahead, AllNear, near-append, all_near, both_run, more-run, begin-ahead, whole-too}

module _ {v : Version} (R : Record v) where
  abbrev D : Draft
  D = draft v

  abbrev T : Transfers
  T = R.transfers

  abbrev Drawn : List Entry → Type 0
  Drawn es = (e : Entry) → Memᴰ e es → Memᴰ e.frame R.frames

  abbrev Gives : Course → List Delivery → Type 0
  Gives a hs = Given.Given D.order T (InRecord R) a hs

  all_expected : (f : List ℕ) → Memᴰ f R.frames → (m : Message) → Memᴰ m (messages D.read f) → Expected D.order T (InRecord R) (event T.first m)
  unfolding InRecord
  all_expected f d m h = expected D.order T (InRecord R) m (R.honest f m d h) (f, d, h)

  module _ (w : ℕ) (win : Window w) where
    abbrev course : Course → Entry → Course
    course a e = course_after D.order w T a (messages D.read e.frame)

    -- a board's list as a course has it
    unfoldable Runs : Course → List Entry → Type 0
    Runs a [] = Unit {0}
    Runs a (e ∷ es) = (e.handed ≡ given_by D.order w T a (messages D.read e.frame)) × Runs (course a e) es

    runs : {b : Board} {a : Course} → Tied D.order w win T b a → (fs : List (List ℕ)) → ((f : List ℕ) → Memᴰ f fs → Memᴰ f R.frames) → Runs a (entries_of D w b fs)
    unfolding Runs entries_of
    runs {b = b} {a = a} s [] d = tt
    runs {b = b} {a = a} s (f ∷ fs) d =
        let tied = run-tied D.order w win T s (messages D.read f) (λ n h. R.honest f n (d f (Memᴰ.head refl)) h) in
        (tied.1, runs {b = board_after w D.order b (messages D.read f)} {a = course_after D.order w T a (messages D.read f)} tied.0 fs (λ g h. d g (Memᴰ.tail h)))

    reception_runs : {es : List Entry} → Reception R w es → Runs begin es
    reception_runs {es} P =
        rw (determined D w (sized v) (calls-as v w P.fresh P.calls) (λ e m. R.well_formed e.frame (P.drawn e m)))
        (runs (fresh-tied D.order w win T P.board P.fresh) (frames_of es) (λ f h. let e = Memᴰ.of_map (λ (e : Entry). e.frame) es h in rw (← e.2) (P.drawn e.0 e.1)))

    given_entry : {a : Course} {hs : List Delivery} → Gives a hs → (e : Entry) → Memᴰ e.frame R.frames → e.handed ≡ given_by D.order w T a (messages D.read e.frame)
        → Gives (course a e) (hs ++ e.handed)
    given_entry G e d q = rw q (given-run D.order T (InRecord R) w G (messages D.read e.frame) (all_expected e.frame d))

    given_all : {a : Course} {hs : List Delivery} → Gives a hs → (es : List Entry) → Runs a es → Drawn es → (a' : Course) × Gives a' (hs ++ handed_of es)
    unfolding Runs handed_of
    given_all {a} {hs} G [] r d = (a, rw (append-nil hs) G)
    given_all {a} {hs} G (e ∷ es) r d =
        let rest = given_all {a = course a e} {hs = hs ++ e.handed} (given_entry G e (d e (Memᴰ.head refl)) r.0) es r.1 (λ e h. d e (Memᴰ.tail h)) in
        (rest.0, rw (append_assoc hs e.handed (handed_of es)) at rest.1)

    outcome : (es : List Entry) → Reception R w es → (a : Course) × Gives a (handed_of es)
    outcome es P = given_all (given-begin D.order T (InRecord R)) es (reception_runs P) P.drawn

    only : (es : List Entry) → Reception R w es → (h : Delivery) → Memᴰ h (handed_of es) → OfRecord R h
    unfolding Backed bundle_at
    only es P h m = go ((outcome es P).1.known h m)
      where
        go : Known D.order T (InRecord R) (outcome es P).0 h → OfRecord R h
        go (plain c q e) = rw e (content c q)
        go (numbered k k< e w) =
            let b = rw w at ((outcome es P).1.backed k) in
            rw e (joined k k< b.0 b.1)

  module _ (w₁ w₂ : ℕ) (win₁ : Window w₁) (win₂ : Window w₂) where
    abbrev Leads : Course → Course → Type 0
    Leads a₁ a₂ = Ahead D.order T (InRecord R) w₁ w₂ a₁ a₂

    abbrev Near : Course → List Message → Type 0
    Near a ms = AllNear D.order T (InRecord R) w₁ w₂ a ms

    -- everything that the first has handed out under a number, the second has handed out too
    handed_too : {a₁ a₂ : Course} {x y : List Delivery} → Gives a₁ x → Gives a₂ y → Leads a₁ a₂ → (h : Delivery) (t : ℕ) → h.origin ≡ Some t → Memᴰ h x → Memᴰ h y
    unfolding Backed delivery
    handed_too {a₁} {y = y} G₁ G₂ A h t e m = go (G₁.known h m)
      where
        go : Known D.order T (InRecord R) a₁ h → Memᴰ h y
        go (plain c q p) = let z : ◌≡◌ {A = ℕ} 0 1 = cc (ap (λ (x : Delivery). x.origin) p) in absurd (omega arith)
        go (numbered k k< p w) = Memᴰ.cast p (rw (whole-too D.order T (InRecord R) w₁ w₂ A k w) at (G₂.backed k)).2

    kept_from : {a₁ a₂ : Course} {u v : List Delivery} → Gives a₁ u → Gives a₂ v → Leads a₁ a₂ → {x y : List Entry} (f : With (NoCancel D) x y) → Runs w₁ win₁ a₁ x → Runs w₂ win₂ a₂ y → Drawn x → Drawn y → Near a₂ (messages_of D y) → Kept u v f
    unfolding Kept Runs messages_of NoCancel
    kept_from {a₁} {a₂} {u} {v} G₁ G₂ A none r₁ r₂ d₁ d₂ n = tt
    kept_from {a₁} {a₂} {u} {v} G₁ G₂ A (same {a} {b} {ys = ys} e f) r₁ r₂ d₁ d₂ n =
        let m₂ = d₂ b (Memᴰ.head refl) in
        let ms = messages D.read b.frame in
        let J₁ = given_entry w₁ win₁ G₁ a (d₁ a (Memᴰ.head refl)) r₁.0 in
        let J₂ = given_entry w₂ win₂ G₂ b m₂ r₂.0 in
        let ns = near-append D.order T (InRecord R) w₁ w₂ a₂ ms (messages_of D ys) n in
        let A' : Leads (course w₁ win₁ a₁ a) (course w₂ win₂ a₂ b) = rw e (both_run D.order T (InRecord R) w₁ w₂ A ms (all_expected b.frame m₂) ns.0) in
        (handed_too J₁ J₂ A', kept_from {a₁ = course w₁ win₁ a₁ a} {a₂ = course w₂ win₂ a₂ b} {u = u ++ a.handed} {v = v ++ b.handed} J₁ J₂ A' f r₁.1 r₂.1 (λ t h. d₁ t (Memᴰ.tail h)) (λ t h. d₂ t (Memᴰ.tail h)) ns.1)
    kept_from {a₁} {a₂} {u} {v} G₁ G₂ A (more {b} {ys = ys} c f) r₁ r₂ d₁ d₂ n =
        let m₂ = d₂ b (Memᴰ.head refl) in
        let ms = messages D.read b.frame in
        let ns = near-append D.order T (InRecord R) w₁ w₂ a₂ ms (messages_of D ys) n in
        kept_from {a₁ = a₁} {a₂ = course w₂ win₂ a₂ b} {u = u} {v = v ++ b.handed} G₁ (given_entry w₂ win₂ G₂ b m₂ r₂.0) (more-run D.order T (InRecord R) w₁ w₂ A ms (all_expected b.frame m₂) c ns.0) f r₁ r₂.1 d₁ (λ t h. d₂ t (Memᴰ.tail h)) ns.1

    kept : (x y : List Entry) → Reception R w₁ x → Reception R w₂ y → (f : With (NoCancel D) x y) → NoneBehind (w₂ - 1) (places T.first (messages_of D y)) → Kept [] [] f
    unfolding begin
    kept x y P₁ P₂ f n =
        let G = given-begin D.order T (InRecord R) in
        kept_from G G (begin-ahead D.order T (InRecord R) w₁ w₂) f (reception_runs w₁ win₁ P₁) (reception_runs w₂ win₂ P₂) P₁.drawn P₂.drawn
        (all_near D.order T (InRecord R) w₁ w₂ (window_size w₂ win₂).0 begin (messages_of D y) (λ j h. omega arith) n)

  -- for each draft and every pair of windows
  pub demand3 : (w₁ w₂ : ℕ) → Window w₁ → Window w₂ → Demand3 R w₁ w₂
  demand3 w₁ w₂ win₁ win₂ = record { only_bundles = only w₁ win₁; none_twice = λ x P. (outcome w₁ win₁ x P).1.once; more_never_costs = kept w₁ w₂ win₁ win₂ }
