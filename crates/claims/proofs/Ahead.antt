-- Two courses over one record's transfers: the second has come at least as far as the first, number by number.
use mathlib.Core.Path.{◌≡◌, refl, sym, ◌∙◌}
use mathlib.Core.Bool.{true, false, false≢true}
use mathlib.Core.Logic.{◌⊎◌, inl, inr}
use mathlib.Core.List.Memᴰ
use mathlib.Core.List.{List, [], ◌∷◌, ◌++◌, Memᴰ}
use Prim.Native.Nat.{ℕ, zero, suc, ◌+◌, ◌-◌, ◌≤◌, ◌<◌, max}
use native.Mathlib.Omega.{arith}
use lib.ListN.{length}
use lib.Dec.{leb, eqb}
use borrow.Author.Tests.{eqb-true, eq-eqb, le-leb, lt-leb, leb-true, leb-false}
use Rattle.octets.proofs.Flags.{bool, or_left, or_right}
use Rattle.wire.specs.Message.{Message, skipped, bundle, segment, last, cancel}
use Rattle.pieces.specs.declared.Order.{Order}
use Rattle.pieces.specs.Pieces.{has, has_all}
use Rattle.claims.specs.Record.{Transfers}
use Rattle.claims.specs.Demand3.{places, NoneBehind}
use Rattle.claims.proofs.Held.{has-snoc, has_either, all-has, has_all_lem}
use Rattle.claims.proofs.Track.{Track, live, whole, stopped, settled, add, stop, change, change_elim, Course, begin, touched, touch, Event, quiet, hands, comes, stops, event, grown, after_event, next, course_after}
use Rattle.claims.proofs.Given.{whole-stays, whole_stopped, Expected, idle, content, part, halt}

-- ---- one number

abbrev Sub : List ℕ → List ℕ → Type 0
Sub is js = (i : ℕ) → has i is ≡ true → has i js ≡ true

-- A track that is behind another, or will never hand out; n is the number of pieces.
pub data Below (n : ℕ) : Track → Track → Type 0 where
  there : {t : Track} → Below n t whole
  never : {t : Track} → Below n stopped t
  within : {is js : List ℕ} → Sub is js → (0 < n → has_all n js ≡ false) → Below n (live is) (live js)

below_stop : {n : ℕ} {t₁ t₂ : Track} → Below n t₁ t₂ → Below n (stop t₁) (stop t₂)
unfolding stop
below_stop there = there
below_stop never = never
below_stop (within sub un) = never

below-whole : {n : ℕ} {t₁ t₂ : Track} → Below n t₁ t₂ → t₁ ≡ whole → t₂ ≡ whole
below-whole there e = refl
below-whole never e = cc
below-whole (within sub un) e = cc

module _ (n i : ℕ) (i< : i < n) where
  old : (js : List ℕ) → Sub js (js ++ i ∷ [])
  old js j e = has-snoc j i js ∙ or_left (has j js) (eqb i j) e

  -- the second comes to hold the pieces js, or all
  below_fill : (is js : List ℕ) → Sub is js → Below n (live is) (settled n js)
  unfolding settled
  below_fill is js sub = go (bool (has_all n js))
    where
      go : (has_all n js ≡ true) ⊎ (has_all n js ≡ false) → Below n (live is) (settled n js)
      go (inl b) = rw b there
      go (inr b) = rw b (within sub (λ pos. b))

  -- the first holds the pieces is, perhaps all
  below-settle : {t : Track} (is : List ℕ) → Below n (live is) t → Below n (settled n is) t
  unfolding settled
  below-settle is there = there
  below-settle {t} is (within {js = js} sub un) = go (bool (has_all n is))
    where
      go : (has_all n is ≡ true) ⊎ (has_all n is ≡ false) → Below n (settled n is) t
      go (inl a) = absurd (false≢true (sym (un (omega arith)) ∙ has_all_lem n js (λ j h. sub j (all-has n is a j h))))
      go (inr a) = rw a (within sub un)

  -- piece i comes to the second
  below-grow : (is js : List ℕ) → Sub is (js ++ i ∷ []) → (0 < n → has_all n js ≡ false) → Below n (live is) (add n i (live js))
  unfolding add
  below-grow is js sub un = go (bool (has i js))
    where
      go : (has i js ≡ true) ⊎ (has i js ≡ false) → Below n (live is) (add n i (live js))
      go (inl e) = rw e (within (λ j p. has_either (λ j. has j js ≡ true) i js (λ j q. q) e j (sub j p)) un)
      go (inr e) = rw e (below_fill is (js ++ i ∷ []) sub)

  below_more : {t₁ t₂ : Track} → Below n t₁ t₂ → Below n t₁ (add n i t₂)
  unfolding add
  below_more there = there
  below_more never = never
  below_more (within {is} {js} sub un) = below-grow is js (λ j p. old js j (sub j p)) un

  below_both : {t₁ t₂ : Track} → Below n t₁ t₂ → Below n (add n i t₁) (add n i t₂)
  unfolding add
  below_both there = there
  below_both never = never
  below_both (within {is} {js} sub un) = go (bool (has i is))
    where
      go : (has i is ≡ true) ⊎ (has i is ≡ false) → Below n (add n i (live is)) (add n i (live js))
      go (inl d) = rw d (below-grow is js (λ j p. old js j (sub j p)) un)
      go (inr d) =
          let new : has i (js ++ i ∷ []) ≡ true = has-snoc i i js ∙ or_right (has i js) (eqb i i) (eq-eqb i i refl) in
          rw d (below-settle (is ++ i ∷ []) (below-grow (is ++ i ∷ []) js (has_either (λ j. has j (js ++ i ∷ []) ≡ true) i is (λ j p. old js j (sub j p)) new) un))

is_whole : (t : Track) → (t ≡ whole) ⊎ (t ≡ whole → ⊥)
is_whole (live is) = inr (λ e. let z : ◌≡◌ {A = ℕ} 0 1 = cc in omega arith)
is_whole whole = inl refl
is_whole stopped = inr (λ e. let z : ◌≡◌ {A = ℕ} 0 1 = cc in omega arith)

none-held : (n : ℕ) → 0 < n → has_all n [] ≡ false
unfolding has_all has
none-held zero pos = absurd (omega arith)
none-held (suc n) pos = refl

-- ---- two courses

-- Number k on two boards, the first of window w, its bound b: behind the second, or out of the first's window for good.
pub data Behind (w n k b : ℕ) (t₁ t₂ : Track) : Type 0 where
  follows : Below n t₁ t₂ → Behind w n k b t₁ t₂
  gone : k + w < b → (t₁ ≡ whole → ⊥) → Behind w n k b t₁ t₂

later : {w n k b b' : ℕ} {t₁ t₂ : Track} → b ≤ b' → Behind w n k b t₁ t₂ → Behind w n k b' t₁ t₂
later h (follows b) = follows b
later h (gone far nowhole) = gone (omega arith) nowhole

-- the first no longer takes the number: the second may do what keeps a whole bundle whole
far_behind : {w n k b : ℕ} (t₁ : Track) {t₂ : Track} (t₃ : Track) → k + w < b → (t₂ ≡ whole → t₃ ≡ whole) → Behind w n k b t₁ t₂ → Behind w n k b t₁ t₃
far_behind t₁ t₃ far keeps (gone f nowhole) = gone f nowhole
far_behind {w} {n} {k} {b} t₁ t₃ far keeps (follows f) = go (is_whole t₁)
  where
    go : (t₁ ≡ whole) ⊎ (t₁ ≡ whole → ⊥) → Behind w n k b t₁ t₃
    go (inl e) = follows (rw (keeps (below-whole f e)) there)
    go (inr e) = gone far e

near_touch : (w : ℕ) (a : Course) (k : ℕ) (t : Track) → a.bound ≤ k + w → touch w a k t ≡ touched a k t
unfolding touch
near_touch w a k t h = rw (le-leb a.bound (k + w) h)

far_touch : (w : ℕ) (a : Course) (k : ℕ) (t : Track) → k + w < a.bound → touch w a k t ≡ a
unfolding touch
far_touch w a k t h = rw (lt-leb a.bound (k + w) h)

-- the places of an event
unfoldable pub placed : Event → List ℕ
placed quiet = []
placed (hands c) = []
placed (comes k i) = k ∷ []
placed (stops k) = k ∷ []

places_event : (first : ℕ) (m : Message) (ms : List Message) → places first (m ∷ ms) ≡ placed (event first m) ++ places first ms
unfolding places placed event
places_event first skipped ms = refl
places_event first (bundle c) ms = refl
places_event first (segment t i d) ms = refl
places_event first (last t i d) ms = refl
places_event first (cancel t) ms = refl

module _ (order : Order) (T : Transfers) (Q : Message → Type 0) (w₁ w₂ : ℕ) where
  abbrev size : ℕ → ℕ
  size k = length (T.pieces k)

  pub record Ahead (a₁ a₂ : Course) : Type 0 where
    bounds : a₁.bound ≤ a₂.bound
    tracks : (k : ℕ) → Behind w₁ (size k) k a₁.bound (a₁.tracks k) (a₂.tracks k)

  module _ {a₁ a₂ : Course} (A : Ahead a₁ a₂) (k : ℕ) (near : a₂.bound ≤ k + w₂) where
    alone : (t₂ : Track) → Behind w₁ (size k) k a₁.bound (a₁.tracks k) t₂ → Ahead a₁ (touched a₂ k t₂)
    alone t₂ b = record { bounds = omega (arith, A.bounds); tracks = change_elim (λ j t. Behind w₁ (size j) j a₁.bound (a₁.tracks j) t) a₂.tracks k t₂ b (λ j ne. A.tracks j) }

    together : (t₁ t₂ : Track) → Below (size k) t₁ t₂ → Ahead (touched a₁ k t₁) (touched a₂ k t₂)
    unfolding change
    together t₁ t₂ b = record { bounds = omega (arith, A.bounds); tracks = λ j. go j (bool (eqb j k)) }
      where
        go : (j : ℕ) → (eqb j k ≡ true) ⊎ (eqb j k ≡ false) → Behind w₁ (size j) j (max a₁.bound (suc k)) (change a₁.tracks k t₁ j) (change a₂.tracks k t₂ j)
        go j (inl e) = rw (e, eqb-true j k e) (follows b)
        go j (inr e) = rw e (later (omega arith) (A.tracks j))

    -- a message on both boards, which the first may find outside its window
    ahead-both : (f : Track → Track) → ((t : Track) → t ≡ whole → f t ≡ whole) → (Below (size k) (a₁.tracks k) (a₂.tracks k) → Below (size k) (f (a₁.tracks k)) (f (a₂.tracks k)))
        → Ahead (touch w₁ a₁ k (f (a₁.tracks k))) (touch w₂ a₂ k (f (a₂.tracks k)))
    ahead-both f keeps mono = rw (near_touch w₂ a₂ k (f (a₂.tracks k)) near) (go (bool (leb a₁.bound (k + w₁))) (A.tracks k))
      where
        go : (leb a₁.bound (k + w₁) ≡ true) ⊎ (leb a₁.bound (k + w₁) ≡ false) → Behind w₁ (size k) k a₁.bound (a₁.tracks k) (a₂.tracks k)
            → Ahead (touch w₁ a₁ k (f (a₁.tracks k))) (touched a₂ k (f (a₂.tracks k)))
        go (inl e) (follows b) = rw (near_touch w₁ a₁ k (f (a₁.tracks k)) (leb-true a₁.bound (k + w₁) e)) (together (f (a₁.tracks k)) (f (a₂.tracks k)) (mono b))
        go (inl e) (gone far nowhole) = absurd (omega (arith, leb-true a₁.bound (k + w₁) e))
        go (inr e) b =
            let far = leb-false a₁.bound (k + w₁) e in
            rw (far_touch w₁ a₁ k (f (a₁.tracks k)) far) (alone (f (a₂.tracks k)) (far_behind (a₁.tracks k) (f (a₂.tracks k)) far (keeps (a₂.tracks k)) b))

    ahead-second : (t₂ : Track) → (Below (size k) (a₁.tracks k) (a₂.tracks k) → Below (size k) (a₁.tracks k) t₂) → Ahead a₁ (touch w₂ a₂ k t₂)
    ahead-second t₂ mono = rw (near_touch w₂ a₂ k t₂ near) (alone t₂ (more (A.tracks k)))
      where
        more : Behind w₁ (size k) k a₁.bound (a₁.tracks k) (a₂.tracks k) → Behind w₁ (size k) k a₁.bound (a₁.tracks k) t₂
        more (follows b) = follows (mono b)
        more (gone far nowhole) = gone far nowhole

  -- ---- events and messages

  -- the event comes less than the second board's window behind the greatest
  abbrev Near : Course → Event → Type 0
  Near a e = (k : ℕ) → Memᴰ k (placed e) → a.bound ≤ k + w₂

  both_event : {a₁ a₂ : Course} → Ahead a₁ a₂ → (e : Event) → Expected order T Q e → Near a₂ e → Ahead (after_event order w₁ T a₁ e) (after_event order w₂ T a₂ e)
  unfolding after_event placed
  both_event A _ idle near = A
  both_event A _ (content c q) near = A
  both_event A _ (part k i k< i< q) near = ahead-both A k (near k (Memᴰ.head refl)) (add (size k) i) (whole-stays (size k) i) (below_both (size k) i i<)
  both_event A _ (halt k k<) near = ahead-both A k (near k (Memᴰ.head refl)) stop whole_stopped below_stop

  more_event : {a₁ a₂ : Course} → Ahead a₁ a₂ → (e : Event) → Expected order T Q e → ((k : ℕ) → e ≡ stops k → ⊥) → Near a₂ e → Ahead a₁ (after_event order w₂ T a₂ e)
  unfolding after_event placed
  more_event A _ idle free near = A
  more_event A _ (content c q) free near = A
  more_event {a₂ = a₂} A _ (part k i k< i< q) free near = ahead-second A k (near k (Memᴰ.head refl)) (grown order w₂ T a₂ k i) (below_more (size k) i i<)
  more_event A _ (halt k k<) free near = absurd (free k refl)

  abbrev pub AllExpected : List Message → Type 0
  AllExpected ms = (m : Message) → Memᴰ m ms → Expected order T Q (event T.first m)

  unfoldable pub AllNear : Course → List Message → Type 0
  AllNear a [] = Unit {0}
  AllNear a (m ∷ ms) = Near a (event T.first m) × AllNear (next order w₂ T a m) ms

  pub near-append : (a : Course) (ms ns : List Message) → AllNear a (ms ++ ns) → AllNear a ms × AllNear (course_after order w₂ T a ms) ns
  unfolding AllNear course_after
  near-append a [] ns n = (tt, n)
  near-append a (m ∷ ms) ns n = let r = near-append (next order w₂ T a m) ms ns n.1 in ((n.0, r.0), r.1)

  pub both_run : {a₁ a₂ : Course} → Ahead a₁ a₂ → (ms : List Message) → AllExpected ms → AllNear a₂ ms → Ahead (course_after order w₁ T a₁ ms) (course_after order w₂ T a₂ ms)
  unfolding AllNear course_after
  both_run {a₁ = a₁} {a₂ = a₂} A [] v n = A
  both_run {a₁ = a₁} {a₂ = a₂} A (m ∷ ms) v n =
      both_run {a₁ = after_event order w₁ T a₁ (event T.first m)} {a₂ = after_event order w₂ T a₂ (event T.first m)} (both_event A (event T.first m) (v m (Memᴰ.head refl)) n.0) ms (λ m h. v m (Memᴰ.tail h)) n.1

  no_stop : (m : Message) → ((t : ℕ) → m ≡ cancel t → ⊥) → (k : ℕ) → event T.first m ≡ stops k → ⊥
  unfolding event
  no_stop skipped free k e = let z : ◌≡◌ {A = ℕ} 0 1 = cc in omega arith
  no_stop (bundle c) free k e = let z : ◌≡◌ {A = ℕ} 0 1 = cc in omega arith
  no_stop (segment t i d) free k e = let z : ◌≡◌ {A = ℕ} 0 1 = cc in omega arith
  no_stop (last t i d) free k e = let z : ◌≡◌ {A = ℕ} 0 1 = cc in omega arith
  no_stop (cancel t) free k e = free t refl

  pub more-run : {a₁ a₂ : Course} → Ahead a₁ a₂ → (ms : List Message) → AllExpected ms → ((t : ℕ) → Memᴰ (cancel t) ms → ⊥) → AllNear a₂ ms → Ahead a₁ (course_after order w₂ T a₂ ms)
  unfolding AllNear course_after
  more-run {a₁ = a₁} {a₂ = a₂} A [] v c n = A
  more-run {a₁ = a₁} {a₂ = a₂} A (m ∷ ms) v c n =
      more-run {a₁ = a₁} {a₂ = after_event order w₂ T a₂ (event T.first m)} (more_event A (event T.first m) (v m (Memᴰ.head refl)) (no_stop m (λ t e. c t (Memᴰ.head (sym e)))) n.0) ms (λ m h. v m (Memᴰ.tail h)) (λ t h. c t (Memᴰ.tail h)) n.1

  -- ---- from "no transfer message comes more than the window less one behind one already come"

  touch_bound : (a : Course) (k : ℕ) (t : Track) → (touch w₂ a k t).bound ≤ max a.bound (suc k)
  unfolding touch
  touch_bound a k t = go (bool (leb a.bound (k + w₂)))
    where
      go : (leb a.bound (k + w₂) ≡ true) ⊎ (leb a.bound (k + w₂) ≡ false) → (touch w₂ a k t).bound ≤ max a.bound (suc k)
      go (inl e) = rw e (omega arith)
      go (inr e) = rw e (omega arith)

  abbrev Low : Course → List ℕ → Type 0
  Low a ks = (j : ℕ) → Memᴰ j ks → a.bound ≤ j + w₂

  module _ (pos : 0 < w₂) where
    low-after : (a : Course) (e : Event) (ks : List ℕ) → Low a (placed e ++ ks) → NoneBehind (w₂ - 1) (placed e ++ ks) → Low (after_event order w₂ T a e) ks × NoneBehind (w₂ - 1) ks
    unfolding after_event placed NoneBehind
    low-after a quiet ks low n = (low, n)
    low-after a (hands c) ks low n = (low, n)
    low-after a (comes k i) ks low n = ((λ j h. omega (arith, touch_bound a k (grown order w₂ T a k i), low j (Memᴰ.tail h), n.0 j h)), n.1)
    low-after a (stops k) ks low n = ((λ j h. omega (arith, touch_bound a k (stop (a.tracks k)), low j (Memᴰ.tail h), n.0 j h)), n.1)

    pub all_near : (a : Course) (ms : List Message) → Low a (places T.first ms) → NoneBehind (w₂ - 1) (places T.first ms) → AllNear a ms
    unfolding AllNear
    all_near a [] low n = tt
    all_near a (m ∷ ms) low n =
        let l : Low a (placed (event T.first m) ++ places T.first ms) = rw (places_event T.first m ms) at low in
        let r = low-after a (event T.first m) (places T.first ms) l (rw (places_event T.first m ms) at n) in
        ((λ k h. l k (Memᴰ.append_left (places T.first ms) h)), all_near (next order w₂ T a m) ms r.0 r.1)

  pub begin-ahead : Ahead begin begin
  unfolding begin
  begin-ahead = record { bounds = omega arith; tracks = λ k. follows (within (λ i e. e) (none-held (size k))) }

  pub whole-too : {a₁ a₂ : Course} → Ahead a₁ a₂ → (k : ℕ) → a₁.tracks k ≡ whole → a₂.tracks k ≡ whole
  whole-too {a₁} {a₂} A k e = go (A.tracks k)
    where
      go : Behind w₁ (size k) k a₁.bound (a₁.tracks k) (a₂.tracks k) → a₂.tracks k ≡ whole
      go (follows b) = below-whole b e
      go (gone far nowhole) = absurd (nowhole e)
