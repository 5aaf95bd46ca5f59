-- The message loop: what it keeps.
use mathlib.Core.Bool.{Bool, true, false, ◌&&◌}
use mathlib.Core.List.{List, [], ◌∷◌}
use mathlib.Core.Logic.{◌⊎◌, inl, inr}
use mathlib.Core.Option.{Option, none, some}
use mathlib.Core.Path.{◌≡◌, refl, sym, ◌∙◌, subst}
use Prim.Native.Nat.{ℕ, ◌+◌, ◌-◌, ◌^◌, ◌≤◌, ◌<◌}
use native.Mathlib.Omega.{arith}
use lib.Dec.{ltb, leb}
use lib.ListN.{length, get_or, take, drop, set, length-set, length-take, length-drop}
use borrow.Author.Tests.{ltb-true, ltb-false, leb-true}
use Rattle.std.proofs.Common.{None, Some, Err, Ok}
use Rattle.octets.proofs.Flags.{bool, both}
use Rattle.octets.proofs.Put.{length-put}
use Rattle.wire.specs.Frame.{Item, Scan, row, items, scanned, from, checked}
use Rattle.wire.specs.declared.Version.{Version}
use Rattle.wire.specs.Layout.{read, message, fitting}
use Rattle.wire.specs.Message.{answer}
use Rattle.wire.specs.declared.Fault.{Fault}
use Rattle.wire.specs.declared.Kind.{Kind}
use Rattle.wire.specs.declared.Kind.TheVariants.{Skipped}
use Rattle.wire.specs.declared.Span.{Span}
use Rattle.wire.proofs.Scanning.{scan_at}
use Rattle.wire.proofs.Items.{Next}
use Rattle.wire.proofs.Items as Items
use Rattle.wire.proofs.Places.{taken, resume}
use Rattle.wire.proofs.Spans.{Located, located, sized}
use Rattle.window.specs.Window.{Window}
use Rattle.pieces.specs.declared.Order.{Order}
use Rattle.pieces.specs.Pieces.{bundle_max}
use Rattle.row.specs.Row.{empty_row, sound_row}
use Rattle.reassembly.specs.Rules.{delivery_of}
use Rattle.reassembly.specs.Rules as Rules
use Rattle.reassembly.specs.Delivery.{Delivery}
use Rattle.row.specs.declared.Phase.TheVariants.{Free}
use Rattle.row.specs.declared.Row.{Row}
use Rattle.reassembly.specs.declared.Taken.{Taken}
use Rattle.row.proofs.Shaped.{Shaped}
use Rattle.rows.specs.State.{window_of}
use Rattle.rows.proofs.Rows.{sound-window}
use Rattle.rows.specs.Message.{order_of, Board, Outcome, handed_of, cell_at, step, messages_from}
use Rattle.messages.specs.Run.{Run, admits, row_step, written_at, Lands, size, listed, numbered, progressed, advanced, roomy, run, run_from, Able}
use Rattle.rows.specs.Visit.{visit_of}
use Rattle.rows.specs.Origin.{Origin}
use Rattle.messages.specs.declared.Limits.{Limits}
use Rattle.messages.specs.declared.Progress.{Progress}
use Rattle.rows.specs.declared.Visit.{Visit}
use Rattle.messages.proofs.Visits.{rows_for, landed, visited, outcome, landed-step, row_fits, Visiting, visiting, visit-slot, visit-admits, Sound, visited-sound, cell_full, landed-sound}

-- the draft that a run goes by
abbrev pub version_of : Run → Version
version_of p = p.board.state.settings.version

-- and its window
abbrev pub width_of : Run → ℕ
width_of p = window_of p.board.state

-- the messages that the loop has yet to treat
abbrev pub left : Version → List ℕ → Run → List Item
left u frame p = items (scan_at (read u) frame p.progress.next)

-- whether a further message is treated
abbrev pub goes_on : Limits → List ℕ → Run → Bool
goes_on limits frame p = ltb p.progress.next (length frame) && roomy p.progress limits (length p.output)

-- p is how far the run over a frame from p₀ on came
pub record Going (limits : Limits) (frame : List ℕ) (p₀ p : Run) : Type 0 where
  pub same : run_from limits p₀ frame ≡ run (width_of p₀) (order_of (version_of p₀)) limits p (left (version_of p₀) frame p)
  pub here : scan_at (read (version_of p₀)) frame p.progress.next ≡ row (left (version_of p₀) frame p)
  pub ready : Sound (width_of p₀) p.board
  pub low : p.board.state.greatest < 2 ^ 32
  pub used : p.progress.used ≤ length p₀.output
  pub output : length p.output ≡ length p₀.output
  pub lengths : length p.lengths ≡ length p₀.lengths
  pub numbers : length p.numbers ≡ length p₀.numbers

-- a turn of the loop: a message is read
pub record Turn (limits : Limits) (frame : List ℕ) (p₀ p : Run) : Type 0 where
  pub going : Going limits frame p₀ p
  pub test : goes_on limits frame p ≡ true
  pub span : Span
  pub told : answer p.progress.next (read (version_of p₀) (drop p.progress.next frame)) ≡ Ok span

-- a bundle goes behind those that are out
advanced-by : (p : Run) (b : Board) (next : ℕ) (origin : Origin) (o : Option (List ℕ))
    → advanced p b next (handed_of origin o)
    ≡ record {
      board = b;
      output = written_at p.progress.used o p.output;
      lengths = listed p.progress.count (delivery_of o) p.lengths;
      numbers = numbered p.progress.count (delivery_of o) origin p.numbers;
      progress = progressed p.progress (delivery_of o) next origin;
    }
unfolding advanced handed_of written_at progressed delivery_of
advanced-by p b next origin none = refl
advanced-by p b next origin (some x) = refl

pub progressed-next : (p : Progress) (d : Delivery) (next : ℕ) (origin : Origin) → (progressed p d next origin).next ≡ next
unfolding progressed
progressed-next p None next origin = refl
progressed-next p (Some n) next origin = refl

-- the output keeps its length, and the octets used stay within it
written-length : (used : ℕ) (o : Option (List ℕ)) (output : List ℕ) → ((x : List ℕ) → o ≡ some x → used + length x ≤ length output) → length (written_at used o output) ≡ length output
unfolding written_at
written-length used none output fits = refl
written-length used (some x) output fits = length-put output used x (fits x refl)

progressed_used : (p : Progress) (o : Option (List ℕ)) (next : ℕ) (origin : Origin) (n : ℕ) → p.used ≤ n → ((x : List ℕ) → o ≡ some x → p.used + length x ≤ n) → (progressed p (delivery_of o) next origin).used ≤ n
unfolding progressed delivery_of
progressed_used p none next origin n h fits = h
progressed_used p (some x) next origin n h fits = fits x refl

listed-length : (k : ℕ) (d : Delivery) (lengths : List ℕ) → length (listed k d lengths) ≡ length lengths
listed-length k None lengths = refl
listed-length k (Some n) lengths = length-set lengths k n

numbered-length : (k : ℕ) (d : Delivery) (origin : Origin) (numbers : List ℕ) → length (numbered k d origin numbers) ≡ length numbers
numbered-length k None origin numbers = refl
numbered-length k (Some n) origin numbers = length-set numbers k _

size_fits : (o : Option (List ℕ)) (n : ℕ) → ((x : List ℕ) → o ≡ some x → length x ≤ n) → size (delivery_of o) ≤ n
unfolding delivery_of
size_fits none n fits = omega arith
size_fits (some x) n fits = fits x refl

items-row : {s : Scan} (is : List Item) → s ≡ row is → items s ≡ is
unfolding items
items-row is e = rw e

skip_step : (w : ℕ) (order : Order) (b : Board) (k : Kind) (content : List ℕ) → k ≡ Skipped → step w order b (message k content) ≡ record { board = b; handed = none }
unfolding step message
skip_step w order b k content e = rw e

-- The message m is read, and goes where v says.
module _ {limits : Limits} {frame : List ℕ} {p₀ p : Run} (T : Turn limits frame p₀ p) where
  abbrev G : Going limits frame p₀ p
  G = T.going

  abbrev u : Version
  u = version_of p₀

  abbrev w : ℕ
  w = width_of p₀

  pub win : Window w
  win = rw (← G.ready.window) (sound-window p.board.state G.ready.sound)

  abbrev m : Span
  m = T.span

  abbrev b : Board
  b = p.board

  abbrev at : ℕ
  at = p.progress.next

  abbrev pub content : List ℕ
  content = take (m.end - m.start) (drop m.start frame)

  abbrev pub v : Visit
  v = visit_of w b.state.present b.state.greatest (message m.kind content)

  abbrev o : Rules.Outcome
  o = outcome w (order_of u) b v content

  tests : (ltb at (length frame) ≡ true) × (roomy p.progress limits (length p.output) ≡ true)
  tests = both (ltb at (length frame)) (roomy p.progress limits (length p.output)) T.test

  budget : (ltb p.progress.treated limits.messages ≡ true) × ((ltb p.progress.count limits.bundles && leb bundle_max (length p.output - p.progress.used)) ≡ true)
  budget = both (ltb p.progress.treated limits.messages) _ tests.1

  rooms : (ltb p.progress.count limits.bundles ≡ true) × (leb bundle_max (length p.output - p.progress.used) ≡ true)
  rooms = both (ltb p.progress.count limits.bundles) (leb bundle_max (length p.output - p.progress.used)) budget.1

  pub at< : at < length frame
  at< = ltb-true at (length frame) tests.0

  pub treated< : p.progress.treated < limits.messages
  treated< = ltb-true p.progress.treated limits.messages budget.0

  pub count< : p.progress.count < limits.bundles
  count< = ltb-true p.progress.count limits.bundles rooms.0

  pub room : p.progress.used + bundle_max ≤ length p.output
  room = omega (arith, leb-true bundle_max (length p.output - p.progress.used) rooms.1, G.used, G.output)

  pub place : Located u frame at m
  place = located u frame at (omega (arith, at<)) m T.told

  follows : Next u frame at m (left u frame p)
  follows = Items.next u frame at (left u frame p) G.here at< m T.told

  -- a message that is passed over
  pub passed : m.kind ≡ Skipped → Going limits frame p₀ (record { board = b; output = p.output; lengths = p.lengths; numbers = p.numbers; progress = progressed p.progress None m.end None })
  unfolding run advanced progressed
  passed e =
      let r = items-row follows.rest follows.then in
      record {
        same = rw r (G.same ∙ rw (follows.first, tests.1, skip_step w (order_of u) b m.kind content e));
        here = rw r follows.then;
        ready = G.ready;
        low = G.low;
        output = G.output;
        used = G.used;
        lengths = G.lengths;
        numbers = G.numbers;
      }

  pub visits : Visiting w b.state.present b.state.greatest v
  visits = visiting w win b.state.present b.state.greatest (message m.kind content)

  pub slot< : v.slot < w
  slot< = visit-slot w win b.state.present b.state.greatest visits

  pub length-content : length content ≡ m.end - m.start
  length-content = rw (length-take, length-drop) (omega (arith, place.ordered, place.within))

  pub fits : fitting m.kind (length content) ≡ true
  fits = rw length-content place.fits

  pub found-sound : sound_row (visited w (order_of u) b v) ≡ true
  found-sound = visited-sound w win (order_of u) b G.ready v slot<

  pub cell-long : length (cell_at b.pool v.slot) ≡ bundle_max
  cell-long = cell_full w win (order_of u) b G.ready v slot<

  module _ (small : length frame ≤ bundle_max) where
    pub admit : admits v.act (length content) ≡ true
    admit = visit-admits w win b.state.present b.state.greatest m.kind content fits (omega (arith, length-content, place.ordered, place.within))

    module _ (shaped : Shaped (visited w (order_of u) b v)) where
      bundle_fits : (x : List ℕ) → o.bundle ≡ some x → length x ≤ bundle_max
      bundle_fits = row_fits (order_of u) content (visited w (order_of u) b v) (cell_at b.pool v.slot) v.act admit found-sound shaped cell-long

      module _ (low : v.greatest < 2 ^ 32) where
        abbrev done : Outcome
        done = landed w (order_of u) b v o

        abbrev next : Run
        next = record {
          board = done.board;
          output = written_at p.progress.used o.bundle p.output;
          lengths = listed p.progress.count (delivery_of o.bundle) p.lengths;
          numbers = numbered p.progress.count (delivery_of o.bundle) v.origin p.numbers;
          progress = progressed p.progress (delivery_of o.bundle) m.end v.origin;
        }

        stepped : done ≡ step w (order_of u) b (message m.kind content)
        stepped = landed-step w win (order_of u) b G.ready.rows G.ready.pool G.low m.kind content low

        same : run_from limits p₀ frame ≡ run w (order_of u) limits next follows.rest
        unfolding run
        same = G.same ∙ rw (follows.first, tests.1, ← stepped, advanced-by p done.board m.end v.origin o.bundle)

        going_on : Going limits frame p₀ next
        unfolding progressed
        going_on =
            let e = progressed-next p.progress (delivery_of o.bundle) m.end v.origin in
            let r = items-row follows.rest follows.then in
            let room' : (x : List ℕ) → o.bundle ≡ some x → p.progress.used + length x ≤ length p.output = λ x q. omega (arith, bundle_fits x q, room) in
            record {
              same = rw (e, r) same;
              here = rw (e, r) follows.then;
              ready = landed-sound w win (order_of u) b G.ready content visits shaped;
              low = low;
              output = written-length p.progress.used o.bundle p.output room' ∙ G.output;
              used = progressed_used p.progress o.bundle m.end v.origin (length p₀.output) G.used λ x q. omega (arith, room' x q, G.output);
              lengths = listed-length p.progress.count (delivery_of o.bundle) p.lengths ∙ G.lengths;
              numbers = numbered-length p.progress.count (delivery_of o.bundle) v.origin p.numbers ∙ G.numbers;
            }

    -- what is handed out is no longer than a bundle
    pub handed-fits : (x : Visit) → x ≡ v → (r : Row) → r ≡ visited w (order_of u) b v → Shaped r
        → (t : Taken) (pool output : List ℕ) → Lands (row_step (order_of u) x.act content r (cell_at b.pool x.slot)) x.slot b.pool p.progress.used p.output t pool output
        → size t.delivery ≤ bundle_max
    handed-fits x ex r er z t pool output a = rw a.delivery (size_fits _ bundle_max (λ y q. bundle_fits (subst Shaped er z) y (rw (er, ex) at q)))

    -- what the code makes of a turn: rows, row, pool, output and progress as they are then
    abbrev Turned : Visit → Type 0
    Turned x =
        (rows : List Row) → rows ≡ rows_for w (order_of u) b x
        → (r : Row) → r ≡ get_or rows x.slot (empty_row Free) → Shaped r → x.greatest < 2 ^ 32
        → (t : Taken) (pool output : List ℕ) → Lands (row_step (order_of u) x.act content r (cell_at b.pool x.slot)) x.slot b.pool p.progress.used p.output t pool output
        → (lengths : List ℕ) → lengths ≡ listed p.progress.count t.delivery p.lengths
        → (numbers : List ℕ) → numbers ≡ numbered p.progress.count t.delivery x.origin p.numbers
        → (progress : Progress) → progress ≡ progressed p.progress t.delivery m.end x.origin
        → Going limits frame p₀
        (record {
          board = record { state = record { present = x.present; greatest = x.greatest; rows = set rows x.slot t.row; settings = b.state.settings }; pool = pool };
          output = output;
          lengths = lengths;
          numbers = numbers;
          progress = progress;
        })

    turned_here : Turned v
    turned_here rows er r ef z low t pool output ans lengths el numbers en progress ep =
        let re : r ≡ visited w (order_of u) b v = ef ∙ rw er in
        let shaped : Shaped (visited w (order_of u) b v) = subst Shaped re z in
        let a : Lands o v.slot b.pool p.progress.used p.output t pool output = rw re at ans in
        let came : progress ≡ progressed p.progress (delivery_of o.bundle) m.end v.origin = ep ∙ rw a.delivery in
        let long : lengths ≡ listed p.progress.count (delivery_of o.bundle) p.lengths = el ∙ rw a.delivery in
        let told' : numbers ≡ numbered p.progress.count (delivery_of o.bundle) v.origin p.numbers = en ∙ rw a.delivery in
        rw (er, a.row, a.pool, a.output, long, told', came) (going_on shaped low)

    pub turned : (x : Visit) → x ≡ v → Turned x
    turned x e = subst Turned (sym e) turned_here

-- the loop begins
pub begins : (limits : Limits) (frame : List ℕ) (p : Run) → Able p.board.state p.board.pool p.output p.progress → checked (read (version_of p)) frame p.progress.next ≡ Ok (tt {0}) → width_of p ≤ length p.board.state.rows → p.board.state.greatest < 2 ^ 32 → Going limits frame p p
unfolding messages_from
begins limits frame p A accepted rows low =
    let u : Version = version_of p in
    let place : ℕ = p.progress.next in
    let t = taken (read u) (sized u) frame place accepted in
    let here : scan_at (read u) frame place ≡ row (from place t.items) = resume (read u) (sized u) frame place t.items t.whole t.good_place in
    let left' : items (scan_at (read u) frame place) ≡ from place t.items = items-row (from place t.items) here in
    let all : items (scanned (read u) frame) ≡ t.items = items-row t.items t.whole in
    record { same = rw (all, left'); here = rw left' here; ready = record { window = refl; sound = A.sound; rows = rows; pool = A.pooled }; low = low; used = A.used; output = refl; lengths = refl; numbers = refl }

-- the loop ends: no message is left, or the limits are reached
stops : (w : ℕ) (order : Order) (limits : Limits) (p : Run) (is : List Item) → roomy p.progress limits (length p.output) ≡ false → run w order limits p is ≡ p
unfolding run
stops w order limits p [] e = refl
stops w order limits p (i ∷ is) e = rw e

module _ {limits : Limits} {frame : List ℕ} {p₀ p : Run} (G : Going limits frame p₀ p) where
  pub ends : goes_on limits frame p ≡ false → p ≡ run_from limits p₀ frame
  unfolding run
  ends test = sym (G.same ∙ go (bool (ltb p.progress.next (length frame))))
    where
      go : (ltb p.progress.next (length frame) ≡ true) ⊎ (ltb p.progress.next (length frame) ≡ false) → run (width_of p₀) (order_of (version_of p₀)) limits p (left (version_of p₀) frame p) ≡ p
      go (inl e) = stops (width_of p₀) (order_of (version_of p₀)) limits p (left (version_of p₀) frame p) (rw e at test)
      go (inr e) = rw (Items.finished (version_of p₀) frame p.progress.next (left (version_of p₀) frame p) G.here (ltb-false p.progress.next (length frame) e))

  -- a message is left, and no message of an accepted frame is bad
  pub some_left : goes_on limits frame p ≡ true → p.progress.next < length frame
  some_left test = ltb-true p.progress.next (length frame) (both (ltb p.progress.next (length frame)) (roomy p.progress limits (length p.output)) test).0

  pub never_bad : {A : Type 0} → goes_on limits frame p ≡ true → (q : Fault) → answer p.progress.next (read (version_of p₀) (drop p.progress.next frame)) ≡ Err q → A
  never_bad test q told = Items.never (version_of p₀) frame p.progress.next (left (version_of p₀) frame p) G.here (some_left test) q told
