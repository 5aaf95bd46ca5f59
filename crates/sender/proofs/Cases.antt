-- The cases of document 01, "Marked cases", "By program": one table of bundles placed from a fresh sender, one proof over it.
use Rattle.wire.specs.declared.Version.{Version}
use Rattle.wire.specs.declared.Version.TheVariants.{Draft00, Draft02}
use mathlib.Core.Path.{◌≡◌, refl}
use mathlib.Core.List.{List, [], ◌∷◌, map}
use Prim.Native.Nat.{ℕ, zero, suc, ◌+◌, ◌*◌, ◌/◌, ◌%◌}
use lib.ListN.{drop, replicate}
use Rattle.octets.specs.Octets.{number, be32, put}
use Rattle.wire.specs.Message.{skipped, bundle, segment, last, Read, good, kind, content_length}
use Rattle.wire.specs.Layout.{zeros, kind_of, length_field, chain, hints, fitting, message, content, body, bodied, headed, read}
use Rattle.writing.specs.Written.{header, content_of, written, piece, padding}
use Rattle.framing.specs.declared.State.{State}
use Rattle.framing.specs.Answers.{Reply, placed, placed_and_ready, ready, Outcome}
use Rattle.framing.specs.Placing.{room, advanced, added, closed, place_piece, placing}
use Rattle.sender.specs.Answers.{unless}
use Rattle.sender.specs.Sound.{sound}
use Rattle.sender.specs.Calls.{fresh, place_cases, place}

-- n octets of a bundle, from its octet i on
octets_from : ℕ → ℕ → List ℕ
octets_from i zero = []
octets_from i (suc n) = (37 * i + 11 * (i / 256)) % 256 ∷ octets_from (i + 1) n

-- What a call answers, the message that it adds with its length field, and the room that it leaves.
record Step : Type 0 where
  answer : Reply
  message : Read
  field : ℕ
  left : ℕ

record Row : Type 0 where
  draft : Version
  lengths : List ℕ
  steps : List Step

placing_all : State → List ℕ → List ℕ → List Step
placing_all s d [] = []
placing_all s d (l ∷ ls) =
    let o : Outcome = place s (octets_from 0 l) d in
    let m : List ℕ = drop s.fill o.frame in
    record { answer = o.answer; message = read s.version m; field = length_field s.version m; left = room o.state } ∷ placing_all o.state o.frame ls

abbrev pieces : List Step → List Step
pieces more =
    record { answer = placed_and_ready; message = good (segment 4294967295 0 (octets_from 0 116)) 128; field = 124; left = 128 }
    ∷ record { answer = placed_and_ready; message = good (segment 4294967295 1 (octets_from 116 116)) 128; field = 124; left = 128 }
    ∷ record { answer = placed; message = good (last 4294967295 2 (octets_from 232 68)) 80; field = 76; left = 48 }
    ∷ more

table : List Row
table =
    record { draft = Draft02; lengths = 300 ∷ 300 ∷ 300 ∷ 44 ∷ []; steps = pieces (record { answer = placed_and_ready; message = good (bundle (octets_from 0 44)) 48; field = 44; left = 128 } ∷ []) }
    ∷ record { draft = Draft02; lengths = 300 ∷ 300 ∷ 300 ∷ 45 ∷ []; steps = pieces (record { answer = ready; message = good skipped 48; field = 44; left = 128 } ∷ []) }
    ∷ record { draft = Draft02; lengths = 124 ∷ []; steps = record { answer = placed_and_ready; message = good (bundle (octets_from 0 124)) 128; field = 124; left = 128 } ∷ [] }
    ∷ record {
      draft = Draft02;
      lengths = 125 ∷ 125 ∷ [];
      steps =
          record { answer = placed_and_ready; message = good (segment 4294967295 0 (octets_from 0 116)) 128; field = 124; left = 128 }
          ∷ record { answer = placed; message = good (last 4294967295 1 (octets_from 116 9)) 21; field = 17; left = 107 }
          ∷ [];
    }
    -- draft 00: indexes fall from that of the start, which is reckoned from the room
    ∷ record {
      draft = Draft00;
      lengths = 300 ∷ 300 ∷ 300 ∷ [];
      steps =
          record { answer = placed_and_ready; message = good (last 4294967295 2 (octets_from 0 116)) 128; field = 124; left = 128 }
          ∷ record { answer = placed_and_ready; message = good (segment 4294967295 1 (octets_from 116 116)) 128; field = 124; left = 128 }
          ∷ record { answer = placed; message = good (segment 4294967295 0 (octets_from 232 68)) 80; field = 76; left = 48 }
          ∷ [];
    }
    ∷ record {
      draft = Draft00;
      lengths = 3 ∷ 125 ∷ 125 ∷ [];
      steps =
          record { answer = placed; message = good (bundle (octets_from 0 3)) 7; field = 3; left = 121 }
          ∷ record { answer = placed_and_ready; message = good (last 4294967295 1 (octets_from 0 109)) 121; field = 117; left = 128 }
          ∷ record { answer = placed; message = good (segment 4294967295 0 (octets_from 109 16)) 28; field = 24; left = 100 }
          ∷ [];
    }
    ∷ []

by_program : map (λ (r : Row). placing_all (fresh r.draft 128 4294967295) (replicate 128 7) r.lengths) table ≡ map (λ (r : Row). r.steps) table
unfolding octets_from placing_all table number be32 put kind content_length zeros kind_of length_field chain hints fitting message content body bodied headed read header content_of written piece padding unless sound advanced added closed place_piece placing place_cases place
by_program = refl
