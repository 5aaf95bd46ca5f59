-- Reserved flag bits change nothing that is read: two frames that differ in them alone have the same messages at the same places, or the
-- same first bad message.
use mathlib.Core.Path.{◌≡◌, refl, sym, ap, ◌∙◌}
use mathlib.Core.Bool.{Bool, true, false, cond}
use mathlib.Core.Logic.{◌⊎◌, inl, inr}
use mathlib.Core.List.{List, ◌∷◌}
use Prim.Native.Nat.{ℕ, zero, suc, ◌+◌, ◌/◌, ◌%◌}
use native.Mathlib.Omega.{arith}
use lib.ListN.{length, get_or, take, drop, length-append, take-append-drop}
use lib.Dec.{ltb, leb}
use borrow.Author.Tests.{leb-true, leb-false, le-leb, lt-leb}
use Rattle.octets.proofs.Flags.{bool}
use Rattle.wire.specs.declared.Version.TheVariants.{Draft02}
use Rattle.wire.specs.declared.Kind.{Kind}
use Rattle.wire.specs.declared.Kind.TheVariants.{Skipped, Bundle, Segment, End, Cancel}
use Rattle.wire.specs.declared.Fault.{Fault}
use Rattle.wire.specs.Message.{Message, Read, bad, good}
use Rattle.wire.specs.Layout.{zeros, kind_of, length_field, Chain, overrun, behind, hints, fitting, content, body, bodied, read, hinted}
use Rattle.wire.specs.Layout as Layout
use Rattle.wire.specs.Frame.{Scan, prepend, follow, scan, scanned, checked}
use Rattle.wire.specs.Reserved.{with_reserved, said, SameButReserved, same, padded, headed}

length-parts : (n : ℕ) (xs : List ℕ) → length xs ≡ length (take n xs) + length (drop n xs)
length-parts n xs = ap length (sym (take-append-drop n xs)) ∙ length-append (take n xs) (drop n xs)

-- equal parts in front, and behind them as many octets
parted : (n : ℕ) (xs ys : List ℕ) → take n xs ≡ take n ys → length (drop n xs) ≡ length (drop n ys) → length xs ≡ length ys
parted n xs ys e l = length-parts n xs ∙ rw (e, l) (sym (length-parts n ys))

pub same_length : {xs ys : List ℕ} → SameButReserved xs ys → length xs ≡ length ys
same_length (same xs) = refl
same_length (padded r) = ap suc (same_length r)
same_length (headed {xs} {ys} t x bits a b e r) = let l = parted (said x a b) xs ys e (same_length r) in omega arith

-- ---- padding

same-zeros : {xs ys : List ℕ} → SameButReserved xs ys → zeros xs ≡ zeros ys
unfolding zeros
same-zeros (same xs) = refl
same-zeros (padded r) = ap (λ n. 1 + n) (same-zeros r)
same-zeros (headed t x bits a b e r) = refl

behind_zeros : {xs ys : List ℕ} → SameButReserved xs ys → SameButReserved (drop (zeros xs) xs) (drop (zeros xs) ys)
unfolding zeros
behind_zeros (same xs) = same (drop (zeros xs) xs)
behind_zeros (padded {xs} r) = let e : 1 + zeros xs ≡ suc (zeros xs) = omega arith in rw e (behind_zeros r)
behind_zeros (headed t x bits a b e r) = headed t x bits a b e r

-- ---- a header

same_flag : (bits x : ℕ) → leb 128 x ≡ leb 128 (with_reserved bits x)
same_flag bits x = go (bool (leb 128 x))
  where
    go : (leb 128 x ≡ true) ⊎ (leb 128 x ≡ false) → leb 128 x ≡ leb 128 (with_reserved bits x)
    go (inl e) = let h = leb-true 128 x e in e ∙ sym (le-leb 128 (with_reserved bits x) (omega arith))
    go (inr e) = let h = leb-false 128 x e in e ∙ sym (lt-leb 128 (with_reserved bits x) (omega arith))

same-top : (bits x : ℕ) → x % 16 ≡ with_reserved bits x % 16
same-top bits x = omega arith

-- every octet with the same flag H and the same bits of the length is reached
pub any_reserved : (x y : ℕ) → x / 128 ≡ y / 128 → x % 16 ≡ y % 16 → y ≡ with_reserved (y / 16) x
any_reserved x y h l = omega arith

same-headed : (xs ys : List ℕ) (t x bits a b : ℕ) → length xs ≡ length ys → take (said x a b) xs ≡ take (said x a b) ys
    → Layout.headed Draft02 (suc t ∷ x ∷ a ∷ b ∷ xs) ≡ Layout.headed Draft02 (suc t ∷ with_reserved bits x ∷ a ∷ b ∷ ys)
unfolding Layout.headed length_field bodied
same-headed xs ys t x bits a b l e = rw (← same_flag bits x, ← same-top bits x, l, e)

-- a reading that refuses, or takes n octets
data Taking (n : ℕ) : Read → Type 0 where
  refused : {r : Fault} → Taking n (bad r)
  takes : {m : Message} → Taking n (good m n)

taking_cond : {n : ℕ} (b : Bool) {x y : Read} → Taking n x → Taking n y → Taking n (cond b x y)
taking_cond true p q = p
taking_cond false p q = q

taking_content : (k : Kind) (c : Chain) (n : ℕ) → Taking n (content k c n)
unfolding content
taking_content k overrun n = refused
taking_content k (behind xs) n = taking_cond (fitting k (length xs)) takes refused

taking_body : (k : Kind) (c : Chain) (n : ℕ) → Taking n (body k c n)
unfolding body
taking_body Skipped c n = takes
taking_body Bundle c n = taking_content Bundle c n
taking_body Segment c n = taking_content Segment c n
taking_body End c n = taking_content End c n
taking_body Cancel c n = taking_content Cancel c n

taking_headed : (xs : List ℕ) → Taking (4 + length_field Draft02 xs) (Layout.headed Draft02 xs)
unfolding Layout.headed bodied
taking_headed xs =
    taking_cond (ltb (length xs) 4) refused
    (taking_cond (ltb (length xs) (4 + length_field Draft02 xs)) refused (taking_body (kind_of Draft02 (get_or xs 0 0)) (hints (hinted Draft02 (get_or xs 1 0)) (take (length_field Draft02 xs) (drop 4 xs))) (4 + length_field Draft02 xs)))

-- what follows it is looked at behind n octets only
follow_taking : {n : ℕ} {r : Read} (p : ℕ) (f g : ℕ → Scan) → Taking n r → f n ≡ g n → follow p r f ≡ follow p r g
unfolding follow
follow_taking p f g refused e = refl
follow_taking p f g takes e = ap (prepend _) e

-- ---- the frame

same_scan : {xs ys : List ℕ} → SameButReserved xs ys → (n p : ℕ) → scan (read Draft02) n p xs ≡ scan (read Draft02) n p ys
unfolding scan read follow length_field
same_scan {xs = xs} {ys = ys} r zero p = refl
same_scan {xs = us} {ys = vs} (same xs) (suc n) p = refl
same_scan {xs = us} {ys = vs} (padded {xs} {ys} r) (suc n) p =
    let e : 1 + zeros xs ≡ suc (zeros xs) = omega arith in
    rw (← same-zeros r, e) (ap (prepend _) (same_scan {xs = drop (zeros xs) xs} {ys = drop (zeros xs) ys} (behind_zeros r) n (p + suc (zeros xs))))
same_scan (headed {xs} {ys} t x bits a b e r) (suc n) p =
    let us : List ℕ = suc t ∷ x ∷ a ∷ b ∷ xs in
    let vs : List ℕ = suc t ∷ with_reserved bits x ∷ a ∷ b ∷ ys in
    let m = length_field Draft02 us in
    let four : 4 + m ≡ suc (suc (suc (suc m))) = omega arith in
    let rest : scan (read Draft02) n (p + (4 + m)) (drop (4 + m) us) ≡ scan (read Draft02) n (p + (4 + m)) (drop (4 + m) vs) = rw four (same_scan r n (p + suc (suc (suc (suc m))))) in
    follow_taking p (λ size. scan (read Draft02) n (p + size) (drop size us)) (λ size. scan (read Draft02) n (p + size) (drop size vs)) (taking_headed us) rest
    ∙ ap (λ (q : Read). follow p q (λ size. scan (read Draft02) n (p + size) (drop size vs))) (same-headed xs ys t x bits a b (parted m xs ys e (same_length r)) e)

-- the same messages, and the same judgement of every place
pub same_scanned : {xs ys : List ℕ} → SameButReserved xs ys → scanned (read Draft02) xs ≡ scanned (read Draft02) ys
unfolding scanned
same_scanned {xs} {ys} r = same_scan r (length xs) 0 ∙ ap (λ n. scan (read Draft02) n 0 ys) (same_length r)

pub same-checked : {xs ys : List ℕ} → SameButReserved xs ys → (place : ℕ) → checked (read Draft02) xs place ≡ checked (read Draft02) ys place
unfolding checked
same-checked r place = rw (same_length r, same_scanned r)
