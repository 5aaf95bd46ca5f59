-- Draft and window of a board: the octets of its image that keep them are as the start wrote them, whatever calls come.
use mathlib.Core.Path.{◌≡◌, refl, sym, ap, ◌∙◌}
use mathlib.Core.List.{List}
use Prim.Native.Nat.{ℕ, ◌%◌}
use native.Mathlib.Omega.{arith}
use lib.ListN.{length}
use Rattle.std.proofs.Common.{Result, Ok, Err}
use Rattle.wire.specs.declared.Version.{Version}
use Rattle.window.proofs.Sizes.{window_range}
use Rattle.rows.specs.declared.Settings.{Settings}
use Rattle.rows.specs.declared.State.{State}
use Rattle.rows.specs.State.{window_of, fresh}
use Rattle.rows.specs.Message.{draft_of}
use Rattle.rows.proofs.Rows.{sound-window}
use Rattle.rows.proofs.Keeping.{settings_of}
use Rattle.receiver.proofs.Keeping.{receive-keeps}
use Rattle.frames.specs.Singles.{room_in}
use Rattle.frames.proofs.Keeping.{singles-keep}
use Rattle.burst.specs.declared.Taken.{Taken}
use Rattle.burst.specs.declared.Refusal.{Refusal}
use Rattle.burst.specs.Burst.{Lists, limits, receive_burst}
use Rattle.burst.specs.Equal.{Sixteen, Long}
use Rattle.burst.proofs.Equal.{burst_equals_draft}
use Rattle.images.specs.Receiver.{version_code, image_of}
use Rattle.board.specs.Receiver.{received, started}
use Rattle.board.specs.Burst.{burst}
use Rattle.demands.specs.Demands.{settings_in, SettingsKept}
use Rattle.demands.proofs.Images as Images
use Rattle.demands.proofs.Images.{Good, with, made}
use Rattle.demands.proofs.Bursts as Bursts
use Rattle.demands.proofs.Locked.{receiver_on}

abbrev octets_of : Settings → ℕ × ℕ
octets_of s = (s.window % 256, version_code s.version)

in_image : (s : State) → settings_in (image_of s) ≡ octets_of s.settings
unfolding image_of
in_image s = refl

-- images of two states with the same settings
alike : {image image' : List ℕ} (s t : State) → image ≡ image_of s → image' ≡ image_of t → t.settings ≡ s.settings → settings_in image' ≡ settings_in image
alike s t e e' same = ap settings_in e' ∙ in_image t ∙ ap octets_of same ∙ sym (in_image s) ∙ sym (ap settings_in e)

started-as : (v : Version) (w : ℕ) (old image : List ℕ) → started v old w ≡ (0, image) → settings_in image ≡ (w, version_code v)
unfolding fresh
started-as v w old image e =
    let m = made v w old e in
    let low : w % 256 ≡ w = omega (arith, window_range w m.0) in
    ap settings_in m.1 ∙ in_image (fresh v w) ∙ ap (λ (n : ℕ). (n, version_code v)) low

module _ (s : State) (g : Good s) (pool sizes octets : List ℕ) (k place : ℕ) (l : Lists) (result : List ℕ) (long : Long l) (short : Sixteen sizes) where
  burst-keeps : (receive_burst (draft_of s) (window_of s) (with s pool) sizes octets k place l).board.state.settings ≡ s.settings
  burst-keeps = go (receive_burst (draft_of s) (window_of s) (with s pool) sizes octets k place l).answer refl
    where
      go : (a : Result Taken Refusal) → (receive_burst (draft_of s) (window_of s) (with s pool) sizes octets k place l).answer ≡ a
          → (receive_burst (draft_of s) (window_of s) (with s pool) sizes octets k place l).board.state.settings ≡ s.settings
      go (Err f) q = ap settings_of (Bursts.keeps s g pool sizes octets k place l result f q)
      go (Ok t) q =
          let E = burst_equals_draft s.settings.version (window_of s) (sound-window s g.sound) (with s pool) sizes octets k place l t.bundles t.octets t.frame t.place t.refused (Bursts.shaped s g pool sizes octets k place l result) long short q in
          singles-keep (draft_of s) (window_of s) (room_in limits (length l.output)) E.calls

pub settings_kept : SettingsKept
settings_kept =
    record {
      start = started-as;
      receive = λ image u pool frame place output result.
          let o = receiver_on u in
          alike o.state _ o.on (ap (λ (i : List ℕ). (received i pool frame place output result).image) o.on ∙ Images.image-left o.state o.good pool frame place output result)
          (receive-keeps (window_of o.state) (draft_of o.state) (with o.state pool) frame place output);
      receive_burst = λ image u pool sizes octets k place l result short long.
          let o = receiver_on u in
          alike o.state _ o.on (ap (λ (i : List ℕ). (burst i pool sizes octets k place l result).image) o.on ∙ Bursts.image-left o.state o.good pool sizes octets k place l result)
          (burst-keeps o.state o.good pool sizes octets k place l result long short);
    }
