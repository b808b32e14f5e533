-- What layout and emission give of an image, function by function and line by line.
--
-- The machine's laws want more than the rules of images: each function's word lies inside the code, and the
-- end of the data is that of the text's setting.
use Rattle.std.specs.Prelude.{◌≡◌, ◌⊎◌, ℕ, ◌+◌, ◌-◌, ◌*◌, ◌<◌, ◌≤◌, List, [], ◌∷◌, Some, length, slice_get, slice_index}
use Rattle.std.specs.List.{AllByRecursion}
use Rattle.bs_words.specs.Memory.{Memory}
use Rattle.bs_words.specs.declared.values.Value.{Value}
use Rattle.cmm_data.specs.Contents.{first_memory}
use Rattle.cmm_data.specs.Placement.{data_end}
use Rattle.cmm_tree.specs.Tree.{FunctionTree, FileTree, functions, comps_of}
use Rattle.cmm_meaning.specs.State.{Callee, Inside, Outside}
use Rattle.correctness.specs.Setting.{layout_of}
use Rattle.rv_emit_rules.specs.Units.{owed_before}
use Rattle.guarded_machine.specs.Guarded.{guarded_of}
use Rattle.image_form.specs.Tables.{Tables, Func}
use Rattle.lin_ir.specs.Meaning.{NamedAt, State, after_label, step, linear_start}
use Rattle.lin_ir.specs.Walks.{Reached}
use Rattle.lin_ir.specs.declared.lin.Lin.{Lin}
use Rattle.lin_ir.specs.declared.lin.Line.{Line}
use Rattle.mach_ir.specs.Runs.{Step, Waits}
use Rattle.moving_laws.specs.Stands.{StaticsStand}
use Rattle.moving_laws.specs.Values.{HasFunctions}
use Rattle.rv_machine.specs.Loading.{IsRoom}
use Rattle.rv_machine.specs.Places.{stack_bottom}
use Rattle.rv_machine.specs.Relocation.{root_addresses}
use Rattle.rv_machine.specs.Run.{seen}
use Rattle.rv_machine.specs.Start.{start_memory}
use Rattle.rv_machine.specs.Services.{Now}
use Rattle.rv_machine.specs.Sound.{IsStackBase}
use Rattle.lin_machine.specs.Arrival.{ArrivesIn}
use Rattle.lin_machine.specs.Contents.{statics_of}
use Rattle.line_calls.specs.Calls.{FollowsSo}
use Rattle.line_calls.specs.Known.{FreeStands, FollowsBranch}
use Rattle.lin_machine.specs.Follows.{IsAt, IsEntered, used, needs_of}
use Rattle.lin_machine.specs.Relation.{Below, Laid, nothing_below}
use Rattle.lin_machine.specs.Statics.{StaticsLie}
use Rattle.lin_machine.specs.View.{Fixed, View}
use Rattle.linking.specs.Assembled.{Setup, IsStub}
use Rattle.linking.specs.Pace.{Words, IsReached}
use Rattle.linking.specs.Program.{activation_in}
use Rattle.linking_stages.specs.Stages.{linear_program}
use Rattle.linking_machine.specs.Standing.{fixed_of, Back}

-- ---- one line

-- an external call's own instruction, which comes after those of its line
abbrev pub service_in : Callee → ℕ
service_in (Inside f) = 0
service_in (Outside row frame) = 1

abbrev pub service_of : Step State → ℕ
service_of (Waits call go) = service_in call.callee
service_of _ = 0

-- The machine follows a step from a view, in at most so many instructions, where the function has
-- so many bytes of the stack in use. Where a unit is owed, the step is that of a branch, which
-- takes an instruction.
pub record FollowsLine (owed most : ℕ) (s : Fixed) (laid : Laid) (live : List Line → Type 0)
    (entry : ℕ → ℕ) (c : Below) (v : View) (used : ℕ) (x : Step State) : Type 0 where
  pub words : ℕ
  pub few : words + service_of x ≤ most
  pub so : FollowsSo words s laid live entry c v used x
  pub takes : (owed ≡ 0) ⊎ FollowsBranch words s laid live c v x

-- The code begins with an exit that has no words: the machine is already where that leads.
pub record BeginsFree (laid : Laid) (m : Lin) (live : List Line → Type 0) (code : List Line)
    : Type 0 where
  pub line : Line
  pub next : List Line
  pub is : code ≡ line ∷ next
  pub free : FreeStands laid m line next
  pub passes : live (after_label free.label m.code) → live code

-- ---- an image

-- Entries lie where the rows say, and take their arguments in registers; the data is in the
-- first memory of a run.
pub record AreEntries (file : FileTree) (image : Tables) (entry : ℕ → ℕ) : Type 0 where
  pub places : (f : ℕ) (row : Func) → slice_get image.funcs f ≡ Some row →
      row.offset ≡ 4 * entry f
  pub few : (f : ℕ) (tree : FunctionTree) → slice_get (functions file) f ≡ Some tree →
      length (comps_of tree) ≤ 16
  pub bytes : AllByRecursion (λ b. b < 256) image.bytes
  pub statics : (stack heap : ℕ) → IsRoom stack → IsRoom heap →
      StaticsStand image [] (start_memory image stack heap) (root_addresses image)
      (statics_of (first_memory file))
  pub lies : StaticsLie image (first_memory file)

module _ (file : FileTree) (image : Tables) (lins : ℕ → Lin) (named : ℕ → NamedAt)
    (w : Words State) (laid : ℕ → Laid) (entry : ℕ → ℕ) (live : ℕ → List Line → Type 0)
    (has : HasFunctions image)
    (bases : (stack : ℕ) → IsRoom stack → IsStackBase (stack_bottom - stack)) where
  pub record IsImageEmitted : Type 0 where
    -- the frames are those of the rows
    pub frames : (f : ℕ) → (laid f).frame ≡ slice_index (layout_of image).frames f
    -- a unit may be owed before a branch
    pub owed : (f : ℕ) (u : State) → w.owed f u ≡ owed_before u.rest
    -- each line that has words does its step, wherever a run of its function comes to it; some walk
    -- comes there too
    pub lines : (run : Setup) (f below : ℕ) (c : Below) (v : View) (u : State) →
        IsReached State (linear_program lins named) f (activation_in file (layout_of image) f below) u →
        Reached (lins f) u.rest u.around.tries →
        c.top + below ≡ stack_bottom →
        IsAt (fixed_of image has bases run) (laid f) (live f) c u v →
        FollowsLine (w.owed f u) (w.cost f u) (fixed_of image has bases run) (laid f) (live f) entry
        c v (used (laid f) u) (step (activation_in file (layout_of image) f below) (named f) (lins f) u)
        ⊎ BeginsFree (laid f) (lins f) (live f) u.rest
    -- a function begins where its frame fits
    pub begins : (run : Setup) (f below : ℕ) (c : Below) (v : View) (arguments : List Value)
        (memory : Memory) (u : State) →
        linear_start (activation_in file (layout_of image) f below) (lins f) arguments memory ≡ Some u →
        c.top + below ≡ stack_bottom →
        IsEntered (fixed_of image has bases run) entry f arguments memory c v →
        ArrivesIn 0 (w.entry f) (fixed_of image has bases run) (needs_of (laid f) c u) v
        (IsAt (fixed_of image has bases run) (laid f) (live f) c u)
    -- so does the entry of a run, above the stub
    pub entries : AreEntries file image entry
    -- and the stub ends it
    pub stub : (run : Setup) (f : ℕ) → slice_get image.funcs f ≡ Some run.row →
        IsStub Now (guarded_of run.schedule) seen run.stack run.heap (layout_of image)
        (data_end file) run.row.result
        (λ d o x. Back image has bases laid entry live run nothing_below d o x)
