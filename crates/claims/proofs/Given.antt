-- What holds of a course and of all that it has handed out, after any messages of the record; Q says which messages the record has.
use mathlib.Core.Path.{◌≡◌, refl, sym, ap, ◌∙◌}
use mathlib.Core.Bool.{Bool, true, false, cond, ◌&&◌, false≢true}
use mathlib.Core.Logic.{◌⊎◌, inl, inr}
use mathlib.Core.List.Memᴰ
use mathlib.Core.List.{List, [], ◌∷◌, ◌++◌, append-nil, append_assoc, Memᴰ}
use Prim.Native.Nat.{ℕ, ◌+◌, ◌<◌}
use native.Mathlib.Omega.{arith}
use lib.ListN.{length}
use lib.Dec.{leb}
use Rattle.std.proofs.Common.{None, Some}
use Rattle.octets.proofs.Flags.{bool}
use Rattle.wire.specs.Message.{Message, bundle}
use Rattle.pieces.specs.declared.Order.{Order}
use Rattle.pieces.specs.Pieces.{has, has_all}
use Rattle.claims.specs.Record as Record
use Rattle.claims.specs.Record.{Transfers, number_at, piece_at, Honest}
use Rattle.claims.specs.Calls.{Delivery}
use Rattle.claims.specs.Demand3.{delivery, NoTransferTwice}
use Rattle.claims.proofs.Held.{has_either, all-has}
use Rattle.claims.proofs.Track.{Track, live, whole, stopped, settled, add, stop, newly, stop_quiet, change, change_same, change_elim, Course, begin, touched, touch, Event, quiet, hands, comes, stops, event, bundle_at, grown, after_event, hands_out, course_after, given_by}
use Rattle.claims.proofs.Window.{place_of, piece-event, same_place}

-- one more answer, of a number that no earlier one has
once_more : (hs : List Delivery) (h : Delivery) → NoTransferTwice hs → ((g : Delivery) (t : ℕ) → Memᴰ g hs → g.origin ≡ Some t → h.origin ≡ Some t → ⊥) → NoTransferTwice (hs ++ h ∷ [])
unfolding NoTransferTwice
once_more [] h n other = ((λ g t m. absurd (Memᴰ.not-nil m)), tt)
once_more (x ∷ hs) h n other = ((λ g t m. go g t (Memᴰ.append_cases hs m)), once_more hs h n.1 (λ g t m. other g t (Memᴰ.tail m)))
  where
    go : (g : Delivery) (t : ℕ) → Memᴰ g hs ⊎ Memᴰ g (h ∷ []) → x.origin ≡ Some t → g.origin ≡ Some t → ⊥
    go g t (inl m) = n.0 g t m
    go g t (inr m) = rw (Memᴰ.eq_of_singleton m) (other x t (Memᴰ.head refl))

pub whole-stays : (n i : ℕ) (t : Track) → t ≡ whole → add n i t ≡ whole
unfolding add
whole-stays n i t e = rw e

pub whole_stopped : (t : Track) → t ≡ whole → stop t ≡ whole
unfolding stop
whole_stopped t e = rw e

newly_whole : (t t' : Track) → newly t t' ≡ true → (t' ≡ whole) × (t ≡ whole → ⊥)
unfolding newly
newly_whole (live is) whole e = (refl, λ q. let z : ◌≡◌ {A = ℕ} 0 1 = cc in omega arith)
newly_whole (live is) (live js) e = absurd (false≢true e)
newly_whole (live is) stopped e = absurd (false≢true e)
newly_whole whole t e = absurd (false≢true e)
newly_whole stopped t e = absurd (false≢true e)

module _ (order : Order) (T : Transfers) (Q : Message → Type 0) where
  -- an event of the record
  pub data Expected : Event → Type 0 where
    idle : Expected quiet
    content : (c : List ℕ) → Q (bundle c) → Expected (hands c)
    part : (k i : ℕ) → k < T.count → i < length (T.pieces k) → Q (piece_at T k i) → Expected (comes k i)
    halt : (k : ℕ) → k < T.count → Expected (stops k)

  pub expected : (m : Message) → Honest T m → Q m → Expected (event T.first m)
  unfolding event
  expected _ Record.padding q = idle
  expected _ (Record.whole c) q = content c q
  expected _ (Record.piece k i k< i<) q = rw (piece-event T k i k<) (part k i k< i< q)
  expected _ (Record.cancelled k k<) q = rw (place_of T k k<) (halt k k<)

  abbrev pub out : ℕ → Delivery
  out k = bundle_at order T k

  abbrev size : ℕ → ℕ
  size k = length (T.pieces k)

  -- a track of k, after the answers hs: the pieces held, or all pieces, are in the record
  unfoldable pub Backed : ℕ → Track → List Delivery → Type 0
  Backed k (live is) hs = (i : ℕ) → has i is ≡ true → Q (piece_at T k i)
  Backed k whole hs = (0 < size k) × ((i : ℕ) → i < size k → Q (piece_at T k i)) × Memᴰ (out k) hs
  Backed k stopped hs = Unit {0}

  pub data Known (a : Course) (h : Delivery) : Type 0 where
    plain : (c : List ℕ) → Q (bundle c) → h ≡ delivery None c → Known a h
    numbered : (k : ℕ) → k < T.count → h ≡ out k → a.tracks k ≡ whole → Known a h

  pub record Given (a : Course) (hs : List Delivery) : Type 0 where
    pub backed : (k : ℕ) → Backed k (a.tracks k) hs
    pub known : (h : Delivery) → Memᴰ h hs → Known a h
    pub once : NoTransferTwice hs

  backed_more : (k : ℕ) (t : Track) (hs gs : List Delivery) → Backed k t hs → Backed k t (hs ++ gs)
  unfolding Backed
  backed_more k (live is) hs gs f = f
  backed_more k whole hs gs f = (f.0, f.1, Memᴰ.append_left gs f.2)
  backed_more k stopped hs gs f = tt

  backed_stop : (k : ℕ) (t : Track) (hs gs : List Delivery) → Backed k t hs → Backed k (stop t) (hs ++ gs)
  unfolding stop Backed
  backed_stop k (live is) hs gs f = tt
  backed_stop k whole hs gs f = backed_more k whole hs gs f
  backed_stop k stopped hs gs f = tt

  abbrev out_if : Bool → ℕ → List Delivery
  out_if b k = cond b (out k ∷ []) []

  backed_add : (k i : ℕ) (t : Track) (hs : List Delivery) → i < size k → Q (piece_at T k i) → Backed k t hs → Backed k (add (size k) i t) (hs ++ out_if (newly t (add (size k) i t)) k)
  unfolding add newly settled Backed
  backed_add k i whole hs i< q f = backed_more k whole hs _ f
  backed_add k i stopped hs i< q f = tt
  backed_add k i (live is) hs i< q f = go (bool (has i is)) (bool (has_all (size k) (is ++ i ∷ [])))
    where
      come : (j : ℕ) → has j (is ++ i ∷ []) ≡ true → Q (piece_at T k j)
      come = has_either (λ j. Q (piece_at T k j)) i is f q

      go : (has i is ≡ true) ⊎ (has i is ≡ false) → (has_all (size k) (is ++ i ∷ []) ≡ true) ⊎ (has_all (size k) (is ++ i ∷ []) ≡ false)
          → Backed k (add (size k) i (live is)) (hs ++ out_if (newly (live is) (add (size k) i (live is))) k)
      go (inl e) a = rw e f
      go (inr e) (inl a) = rw (e, a) (omega arith, (λ j h. come j (all-has (size k) (is ++ i ∷ []) a j h)), Memᴰ.append_right hs (Memᴰ.head refl))
      go (inr e) (inr a) = rw (e, a) come

  -- ---- a transfer message of place k, which takes the track to t

  module _ {a : Course} {hs : List Delivery} (G : Given a hs) (k : ℕ) (k< : k < T.count) (t : Track) (keeps : a.tracks k ≡ whole → t ≡ whole) where
    still : (h : Delivery) → Known a h → Known (touched a k t) h
    still h (plain c q e) = plain c q e
    still h (numbered j j< e w) = numbered j j< e (change_elim (λ j t. a.tracks j ≡ whole → t ≡ whole) a.tracks k t keeps (λ j ne w. w) j w)

    backed_all : (gs : List Delivery) → Backed k t (hs ++ gs) → (j : ℕ) → Backed j (change a.tracks k t j) (hs ++ gs)
    backed_all gs f = change_elim (λ j t. Backed j t (hs ++ gs)) a.tracks k t f (λ j ne. backed_more j (a.tracks j) hs gs (G.backed j))

    given_touched : (b : Bool) → newly (a.tracks k) t ≡ b → Backed k t (hs ++ out_if b k) → Given (touched a k t) (hs ++ out_if b k)
    unfolding bundle_at delivery
    given_touched false e f = record { backed = backed_all [] f; known = λ h m. still h (G.known h (rw (append-nil hs) at m)); once = rw (append-nil hs) G.once }
    given_touched true e f = record { backed = backed_all (out k ∷ []) f; known = λ h m. known h (Memᴰ.append_cases hs m); once = once_more hs (out k) G.once (λ g n m. other g n (G.known g m)) }
      where
        known : (h : Delivery) → Memᴰ h hs ⊎ Memᴰ h (out k ∷ []) → Known (touched a k t) h
        known h (inl m) = still h (G.known h m)
        known h (inr m) = numbered k k< (Memᴰ.eq_of_singleton m) (change_same a.tracks k t ∙ (newly_whole (a.tracks k) t e).0)

        other : (g : Delivery) (n : ℕ) → Known a g → g.origin ≡ Some n → (out k).origin ≡ Some n → ⊥
        other g n (plain c q p) e₁ e₂ = let z : ◌≡◌ {A = ℕ} 0 1 = cc (ap (λ (x : Delivery). x.origin) p) in omega arith
        other g n (numbered j j< p w) e₁ e₂ =
            let n≡ : Some (number_at T j) ≡ Some (number_at T k) = ap (λ (x : Delivery). x.origin) (sym p) ∙ e₁ ∙ sym e₂ in
            (newly_whole (a.tracks k) t e).1 (rw (same_place T j k j< k< (let same : number_at T j ≡ number_at T k = cc in same)) at w)

    given_touch : (w : ℕ) → Backed k t (hs ++ out_if (newly (a.tracks k) t) k) → Given (touch w a k t) (hs ++ out_if (leb a.bound (k + w) && newly (a.tracks k) t) k)
    unfolding touch
    given_touch w f = go (bool (leb a.bound (k + w)))
      where
        go : (leb a.bound (k + w) ≡ true) ⊎ (leb a.bound (k + w) ≡ false) → Given (touch w a k t) (hs ++ out_if (leb a.bound (k + w) && newly (a.tracks k) t) k)
        go (inl e) = rw e (given_touched (newly (a.tracks k) t) refl f)
        go (inr e) = rw (e, append-nil hs) G

  given_plain : {a : Course} {hs : List Delivery} → Given a hs → (c : List ℕ) → Q (bundle c) → Given a (hs ++ delivery None c ∷ [])
  unfolding delivery
  given_plain {a} {hs} G c q = record {
    backed = λ k. backed_more k (a.tracks k) hs (delivery None c ∷ []) (G.backed k);
    known = λ h m. known h (Memᴰ.append_cases hs m);
    once = once_more hs (delivery None c) G.once (λ g t m e₁ e₂. let z : ◌≡◌ {A = ℕ} 0 1 = cc in omega arith);
  }
    where
      known : (h : Delivery) → Memᴰ h hs ⊎ Memᴰ h (delivery None c ∷ []) → Known a h
      known h (inl m) = G.known h m
      known h (inr m) = plain c q (Memᴰ.eq_of_singleton m)

  given_event : (w : ℕ) {a : Course} {hs : List Delivery} → Given a hs → (e : Event) → Expected e → Given (after_event order w T a e) (hs ++ hands_out order w T a e)
  unfolding after_event hands_out
  given_event w {a} {hs} G _ idle = rw (append-nil hs) G
  given_event w G _ (content c q) = given_plain G c q
  given_event w {a} {hs} G _ (part k i k< i< q) = given_touch G k k< (grown order w T a k i) (whole-stays (size k) i (a.tracks k)) w (backed_add k i (a.tracks k) hs i< q (G.backed k))
  given_event w {a} {hs} G _ (halt k k<) = rw (stop_quiet (leb a.bound (k + w)) (a.tracks k)) at (given_touch G k k< (stop (a.tracks k)) (whole_stopped (a.tracks k)) w (backed_stop k (a.tracks k) hs _ (G.backed k)))

  pub given-run : (w : ℕ) {a : Course} {hs : List Delivery} → Given a hs → (ms : List Message) → ((m : Message) → Memᴰ m ms → Expected (event T.first m))
      → Given (course_after order w T a ms) (hs ++ given_by order w T a ms)
  unfolding course_after given_by
  given-run w {a} {hs} G [] good = rw (append-nil hs) G
  given-run w {a} {hs} G (m ∷ ms) good =
      rw (append_assoc hs (hands_out order w T a (event T.first m)) (given_by order w T (after_event order w T a (event T.first m)) ms))
      at (given-run w {a = after_event order w T a (event T.first m)} {hs = hs ++ hands_out order w T a (event T.first m)} (given_event w G (event T.first m) (good m (Memᴰ.head refl))) ms (λ n h. good n (Memᴰ.tail h)))

  pub given-begin : Given begin []
  unfolding begin NoTransferTwice has Backed
  given-begin = record { backed = λ k i e. absurd (false≢true e); known = λ h m. absurd (Memᴰ.not-nil m); once = tt }
