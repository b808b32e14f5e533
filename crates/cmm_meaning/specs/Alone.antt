-- The evaluation of one function alone: what its callees and external calls do is handed in.
--
-- A raise of a callee fits val, as each value that a text raises does, or the evaluation is improper there.
-- An external call is handed an answer and no memory, and its raise is improper.
use Rattle.std.specs.Prelude.{⊤, ℕ, Bool, true, false, List, [], ◌∷◌, ◌++◌, Option, Some}
use Rattle.bs_words.specs.External.{External}
use Rattle.bs_words.specs.Memory.{Memory}
use Rattle.bs_words.specs.declared.types.Comp.{Comp}
use Rattle.bs_words.specs.declared.types.Ty.TheVariants as ty
use Rattle.bs_words.specs.declared.values.Kind.TheVariants.{BadCall}
use Rattle.bs_words.specs.declared.values.Value.{Value}
use Rattle.cmm_data.specs.Known.{FunctionTree}
use Rattle.cmm_meaning.specs.State.{Doing, Gave, Threw, Called, Asked, asked_inside, asked_outside, World}
use Rattle.cmm_meaning.specs.Evaluation.{OutOfFuel, NoAnswer, Asking, NotProper, Evaluation, Gives, Exits, Raises, Stops, Surroundings, tested}
use Rattle.cmm_meaning.specs.Run.{nobody, activated}

-- a call of a function takes the next doing, and asks where none is left; a raised value fits val, as each
-- value that a text raises does
abbrev pub done_inside : ℕ → Asked → List Doing → World → Evaluation
done_inside end call [] w = Stops (Asking call) w
done_inside end call (Gave v memory ∷ doings) w =
    Gives v nobody (record w { memory = memory; asked = w.asked ++ call ∷ []; doings = doings })
done_inside end call (Threw v memory ∷ doings) w =
    let after : World =
    record w { memory = memory; asked = w.asked ++ call ∷ []; doings = doings } in
    tested end ty.Val v after (Raises v nobody after)

-- so does an external call, which leaves the memory as it was; only a frame call raises
abbrev pub done_outside : ℕ → Bool → Asked → List Doing → World → Evaluation
done_outside end frame call [] w = Stops (Asking call) w
done_outside end frame call (Gave v memory ∷ doings) w =
    Gives v nobody (record w { asked = w.asked ++ call ∷ []; doings = doings })
done_outside end true call (Threw v memory ∷ doings) w =
    let after : World = record w { asked = w.asked ++ call ∷ []; doings = doings } in
    tested end ty.Val v after (Raises v nobody after)
done_outside end false call (Threw v memory ∷ doings) w = Stops (NotProper BadCall) w

abbrev pub call_inside : ℕ → Called → World → Evaluation
call_inside end c w = done_inside end (asked_inside c w.memory) w.doings w

abbrev pub call_outside : ℕ → External → Bool → List Value → World → Evaluation
call_outside end row frame arguments w =
    done_outside end frame (asked_outside row frame arguments w.memory) w.doings w

-- the world in which a function is evaluated alone, from this memory, with n units
abbrev pub lone_world : Memory → List Doing → ℕ → World
lone_world memory doings n =
    record { left = n; stack_need = 0; memory = memory; made = []; answers = []; asked = []; doings = doings }

-- the evaluation of one function on these arguments, with so many stack bytes below it: the end of the data,
-- the values of symbols and the parameters of the file's functions are given, and so is what the calls do,
-- first to last
abbrev pub alone : ℕ → (List ℕ → Option Value) → List (List Comp)
    → ℕ → FunctionTree → List Value → ℕ → Memory → List Doing → ℕ → Evaluation
alone end symbol parameters frame f arguments below memory doings n =
    let s : Surroundings = record {
      end = end;
      symbol = symbol;
      parameters = parameters;
      call = call_inside end;
      external = call_outside end;
    } in
    activated s frame (Some f) arguments below (lone_world memory doings n)

-- A proper end of one function alone: it gave something, raised, asked a call, or had no units left. An exit out of a
-- function is no proper end, and a function alone wants no answer.
abbrev pub IsProperEnd : Evaluation → Type 0
IsProperEnd (Gives v h w) = ⊤
IsProperEnd (Exits label values h w) = ⊥
IsProperEnd (Raises v h w) = ⊤
IsProperEnd (Stops OutOfFuel w) = ⊤
IsProperEnd (Stops (Asking call) w) = ⊤
IsProperEnd (Stops (NotProper kind) w) = ⊥
IsProperEnd (Stops (NoAnswer call) w) = ⊥
