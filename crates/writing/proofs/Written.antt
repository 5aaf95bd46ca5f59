-- A message that was written reads back: a header without flags, and a content that fits its type.
--     read-written     each kind of message that a sender writes, whatever follows
--     read_definite    definite padding, whatever follows
--     read-padding     any padding, up to the frame's end
--     length-written, length-piece, length-padding     their sizes
--     header-put, piece-put, padding-put     the stores that write them
--     octets_bundle, octets_piece, octets_cancel, octets_padding     they are octets
use Rattle.wire.specs.declared.Version.{Version}
use Rattle.wire.specs.declared.Version.TheVariants.{Draft00, Draft02}
use mathlib.Core.Path.{◌≡◌, refl, ap, ◌∙◌}
use mathlib.Core.Bool.{Bool, true, false}
use mathlib.Core.List.{List, [], ◌∷◌, ◌++◌, append-nil}
use Prim.Native.Nat.{ℕ, zero, suc, ◌+◌, ◌-◌, ◌*◌, ◌/◌, ◌%◌, ◌≤◌, ◌<◌, ◌^◌}
use native.Mathlib.Omega.{arith}
use lib.ListN.{length, length-append, replicate, length-replicate}
use lib.Seq.{take-append_seam}
use lib.Dec.{leb}
use borrow.Author.Tests.{le-ltb, lt-leb, le-leb, leb-true}
use Rattle.octets.specs.Octets.{Octets, be32, put}
use Rattle.octets.proofs.Flags.{cond_elim}
use Rattle.octets.proofs.Put.{put-put}
use Rattle.octets.proofs.Numbers.{number-be32, octets_append, octets_zeros, octets_be32}
use Rattle.wire.specs.declared.Kind.{Kind}
use Rattle.wire.specs.declared.Kind.TheVariants.{Skipped, Bundle, Segment, End, Cancel}
use Rattle.wire.specs.Message.{Message, skipped, bundle, segment, last, cancel, good, content_length, kind}
use Rattle.wire.specs.Layout.{zeros, kind_of, length_top, hinted, length_field, behind, hints, fitting, message, content, body, bodied, headed, read}
use Rattle.writing.specs.Written.{type_of, header, content_of, written, piece_kind, piece, padding}

body_back : (k : Kind) (ys : List ℕ) (s : ℕ) → fitting k (length ys) ≡ true → body k (behind ys) s ≡ good (message k ys) s
unfolding body content message
body_back Skipped ys s f = refl
body_back Bundle ys s f = rw f
body_back Segment ys s f = rw f
body_back End ys s f = rw f
body_back Cancel ys s f = rw f

-- a second octet below 16
top : (v : Version) (a : ℕ) → a < 16 → (length_top v a ≡ a) × (hinted v a ≡ false)
top Draft00 a h = (refl, refl)
top Draft02 a h = (omega arith, lt-leb 128 a (omega arith))

module _ (v : Version) (t a b c : ℕ) (ys rest : List ℕ) (plain : a < 16) (size : a * 65536 + b * 256 + c ≡ length ys) where
  field : length_field v (t ∷ a ∷ b ∷ c ∷ (ys ++ rest)) ≡ length ys
  unfolding length_field
  field = rw (top v a plain).0 size

  bodied-back : fitting (kind_of v t) (length ys) ≡ true → bodied v (t ∷ a ∷ b ∷ c ∷ (ys ++ rest)) (length ys) ≡ good (message (kind_of v t) ys) (4 + length ys)
  unfolding bodied hints
  bodied-back f = rw ((top v a plain).1, take-append_seam ys rest) (body_back (kind_of v t) ys (4 + length ys) f)

  headed-back : fitting (kind_of v t) (length ys) ≡ true → headed v (t ∷ a ∷ b ∷ c ∷ (ys ++ rest)) ≡ good (message (kind_of v t) ys) (4 + length ys)
  unfolding headed
  headed-back f =
      let n : length (ys ++ rest) ≡ length ys + length rest = length-append ys rest in
      rw (field, le-ltb (length (t ∷ a ∷ b ∷ c ∷ (ys ++ rest))) 4 (omega arith), le-ltb (length (t ∷ a ∷ b ∷ c ∷ (ys ++ rest))) (4 + length ys) (omega arith)) (bodied-back f)

pub written_back : (v : Version) (t a b c : ℕ) (ys rest : List ℕ) → 0 < t → a < 16 → a * 65536 + b * 256 + c ≡ length ys → fitting (kind_of v t) (length ys) ≡ true
    → read v (t ∷ a ∷ b ∷ c ∷ (ys ++ rest)) ≡ good (message (kind_of v t) ys) (4 + length ys)
unfolding read
written_back v zero a b c ys rest p q e f = absurd (omega arith)
written_back v (suc t) a b c ys rest p q e f = headed-back v (suc t) a b c ys rest q e f

zeros-all : (n : ℕ) → zeros (replicate n 0) ≡ n
unfolding zeros
zeros-all zero = refl
zeros-all (suc n) = let z = zeros-all n in omega arith

-- zero octets up to the frame's end are one message
pub zeros-back : (v : Version) (n : ℕ) → read v (replicate (suc n) 0) ≡ good skipped (suc n)
unfolding read
zeros-back v n = ap (good skipped) (let z = zeros-all n in omega arith)

-- ---- the messages of a sender

kind_type : (v : Version) (k : Kind) → kind_of v (type_of v k) ≡ k
unfolding kind_of
kind_type v Skipped = refl
kind_type v Bundle = refl
kind_type Draft00 Segment = refl
kind_type Draft02 Segment = refl
kind_type Draft00 End = refl
kind_type Draft02 End = refl
kind_type v Cancel = refl

typed : (v : Version) (k : Kind) → (0 < type_of v k) × (type_of v k < 256)
typed v Skipped = (omega arith, omega arith)
typed v Bundle = (omega arith, omega arith)
typed Draft00 Segment = (omega arith, omega arith)
typed Draft02 Segment = (omega arith, omega arith)
typed Draft00 End = (omega arith, omega arith)
typed Draft02 End = (omega arith, omega arith)
typed v Cancel = (omega arith, omega arith)

header-back : (v : Version) (k : Kind) (c rest : List ℕ) → length c < 2 ^ 20 → fitting k (length c) ≡ true → read v (header (type_of v k) (length c) ++ c ++ rest) ≡ good (message k c) (4 + length c)
unfolding header
header-back v k c rest h f =
    rw (kind_type v k) at (written_back v (type_of v k) (length c / 65536) (length c / 256 % 256) (length c % 256) c rest (typed v k).0 (omega arith) (omega arith) (rw (kind_type v k) f))

-- A message whose numbers have 32 bits and whose length field has 20.
pub data Writable : Message → Type 0 where
  empty : Writable skipped
  whole : {b : List ℕ} → length b < 2 ^ 20 → Writable (bundle b)
  more : {n i : ℕ} {b : List ℕ} → n < 2 ^ 32 → i < 2 ^ 32 → 8 + length b < 2 ^ 20 → Writable (segment n i b)
  final : {n i : ℕ} {b : List ℕ} → n < 2 ^ 32 → i < 2 ^ 32 → 8 + length b < 2 ^ 20 → Writable (last n i b)
  stop : {n : ℕ} → n < 2 ^ 32 → Writable (cancel n)

pub writable_piece : (ending : Bool) (n i : ℕ) (b : List ℕ) → n < 2 ^ 32 → i < 2 ^ 32 → 8 + length b < 2 ^ 20 → Writable (piece ending n i b)
unfolding piece
writable_piece true n i b p q r = final p q r
writable_piece false n i b p q r = more p q r

length-content : (m : Message) → length (content_of m) ≡ content_length m
unfolding content_of content_length be32
length-content skipped = refl
length-content (bundle b) = refl
length-content (segment n i b) = omega arith
length-content (last n i b) = omega arith
length-content (cancel n) = refl

pub length-written : (v : Version) (m : Message) → length (written v m) ≡ 4 + content_length m
unfolding written header
length-written v m = omega (arith, length-content m)

short : {m : Message} → Writable m → content_length m < 2 ^ 20
unfolding content_length
short empty = omega arith
short (whole r) = r
short (more p q r) = r
short (final p q r) = r
short (stop p) = omega arith

fits : {m : Message} → Writable m → fitting (kind m) (content_length m) ≡ true
unfolding fitting kind content_length
fits empty = refl
fits (whole r) = refl
fits (more {b} p q r) = le-leb 8 (8 + length b) (omega arith)
fits (final {b} p q r) = le-leb 8 (8 + length b) (omega arith)
fits (stop p) = refl

means : {m : Message} → Writable m → message (kind m) (content_of m) ≡ m
unfolding message kind content_of be32
means empty = refl
means (whole r) = refl
means (more {n} {i} {b} p q r) = rw (number-be32 n (be32 i ++ b) p, number-be32 i b q)
means (final {n} {i} {b} p q r) = rw (number-be32 n (be32 i ++ b) p, number-be32 i b q)
means (stop {n} p) = rw (number-be32 n [] p)

pub read-written : (v : Version) (m : Message) (rest : List ℕ) → Writable m → read v (written v m ++ rest) ≡ good m (4 + content_length m)
unfolding written
read-written v m rest w =
    rw (length-content m, means w) at (header-back v (kind m) (content_of m) rest (rw (length-content m) (short w)) (rw (length-content m) (fits w)))

-- ---- padding

definite : (v : Version) (n : ℕ) (rest : List ℕ) → n < 2 ^ 20 → read v (header 1 n ++ replicate n 0 ++ rest) ≡ good skipped (4 + n)
unfolding message fitting
definite v n rest h = rw (length-replicate {A = ℕ} n 0) at (header-back v Skipped (replicate n 0) rest (rw (length-replicate {A = ℕ} n 0) h) refl)

pub read_definite : (v : Version) (r : ℕ) (rest : List ℕ) → 4 ≤ r → r < 2 ^ 20 → read v (padding r ++ rest) ≡ good skipped r
unfolding padding
read_definite v r rest h k = rw (le-leb 4 r h) (definite v (r - 4) rest (omega arith) ∙ ap (good skipped) (omega arith))

zeros-close : (v : Version) (r : ℕ) → 0 < r → read v (replicate r 0) ≡ good skipped r
zeros-close v zero h = absurd (omega arith)
zeros-close v (suc n) h = zeros-back v n

pub read-padding : (v : Version) (r : ℕ) → 0 < r → r < 2 ^ 20 → read v (padding r) ≡ good skipped r
unfolding padding
read-padding v r h k =
    cond_elim (λ (l : List ℕ). read v l ≡ good skipped r) (leb 4 r)
    (λ e. let l = leb-true 4 r e in rw append-nil at (definite v (r - 4) [] (omega arith)) ∙ ap (good skipped) (omega arith))
    λ e. zeros-close v r h

pub length-padding : (r : ℕ) → length (padding r) ≡ r
unfolding padding header
length-padding r =
    cond_elim (λ (l : List ℕ). length l ≡ r) (leb 4 r)
    (λ e. omega (arith, leb-true 4 r e, length-replicate {A = ℕ} (r - 4) 0))
    λ e. length-replicate r 0

-- ---- the stores that write them

written-piece : (v : Version) (e : Bool) (n i : ℕ) (b : List ℕ) → written v (piece e n i b) ≡ header (type_of v (piece_kind e)) (8 + length b) ++ (be32 n ++ be32 i ++ b)
unfolding written piece kind content_length content_of
written-piece v true n i b = refl
written-piece v false n i b = refl

pub length-piece : (v : Version) (e : Bool) (n i : ℕ) (b : List ℕ) → length (written v (piece e n i b)) ≡ 12 + length b
unfolding header be32
length-piece v e n i b = rw (written-piece v e n i b) (omega arith)

module _ (d : List ℕ) (at : ℕ) where
  pub header-put : (k : ℕ) (n : ℕ) (c : List ℕ) → at + 4 + length c ≤ length d → put (put d at (header k n)) (at + 4) c ≡ put d at (header k n ++ c)
  unfolding header
  header-put k n c h = put-put d at (at + 4) (header k n) c refl h

  pub piece-put : (v : Version) (e : Bool) (n i : ℕ) (b : List ℕ) → at + 12 + length b ≤ length d
      → put (put (put (put d at (header (type_of v (piece_kind e)) (8 + length b))) (at + 4) (be32 n)) (at + 8) (be32 i)) (at + 12) b ≡ put d at (written v (piece e n i b))
  unfolding header be32
  piece-put v e n i b h =
      let t : List ℕ = header (type_of v (piece_kind e)) (8 + length b) in
      rw (written-piece v e n i b, put-put d at (at + 4) t (be32 n) refl (omega arith), put-put d at (at + 8) (t ++ be32 n) (be32 i) refl (omega arith))
      (put-put d at (at + 12) (t ++ be32 n ++ be32 i) b refl h)

  pub padding-put : (r : ℕ) → 4 ≤ r → at + r ≤ length d → put (put d at (header 1 (r - 4))) (at + 4) (replicate (r - 4) 0) ≡ put d at (padding r)
  unfolding padding
  padding-put r h k = rw (le-leb 4 r h) (header-put 1 (r - 4) (replicate (r - 4) 0) (rw (length-replicate {A = ℕ} (r - 4) 0) (omega arith)))

-- ---- octets

octets_header : (t n : ℕ) → t < 256 → n < 2 ^ 20 → Octets (header t n)
unfolding header
octets_header t n low h zero = low
octets_header t n low h (suc zero) = omega arith
octets_header t n low h (suc (suc zero)) = omega arith
octets_header t n low h (suc (suc (suc zero))) = omega arith
octets_header t n low h (suc (suc (suc (suc i)))) = omega arith

pub octets_bundle : (v : Version) (b : List ℕ) → length b < 2 ^ 20 → Octets b → Octets (written v (bundle b))
unfolding written kind content_length content_of
octets_bundle v b h low = octets_append (header 2 (length b)) b (octets_header 2 (length b) (omega arith) h) low

pub octets_piece : (v : Version) (e : Bool) (n i : ℕ) (b : List ℕ) → n < 2 ^ 32 → i < 2 ^ 32 → 8 + length b < 2 ^ 20 → Octets b → Octets (written v (piece e n i b))
octets_piece v e n i b p q h low =
    let k : ℕ = type_of v (piece_kind e) in
    rw (written-piece v e n i b)
    (octets_append (header k (8 + length b)) (be32 n ++ be32 i ++ b) (octets_header k (8 + length b) (typed v (piece_kind e)).1 h)
    (octets_append (be32 n ++ be32 i) b (octets_append (be32 n) (be32 i) (octets_be32 n p) (octets_be32 i q)) low))

pub octets_cancel : (v : Version) (n : ℕ) → n < 2 ^ 32 → Octets (written v (cancel n))
unfolding written kind content_length content_of
octets_cancel v n h = octets_append (header 5 4) (be32 n) (octets_header 5 4 (omega arith) (omega arith)) (octets_be32 n h)

pub octets_padding : (r : ℕ) → r < 2 ^ 20 → Octets (padding r)
unfolding padding
octets_padding r h =
    cond_elim Octets (leb 4 r)
    (λ _. octets_append (header 1 (r - 4)) (replicate (r - 4) 0) (octets_header 1 (r - 4) (omega arith) (omega arith)) (octets_zeros (r - 4)))
    λ _. octets_zeros r
