-- A machine whose first function has taken its frame and asks for 16 bytes: what the laws of the services
-- ask for holds of it.
use Rattle.std.proofs.Common.{◌≡◌, ℕ, ◌+◌, ◌-◌, ◌*◌, ◌<◌, ◌≤◌, inl, List, [], ◌∷◌, Some, None, refl, arith}
use Rattle.std.specs.List.{AllByRecursion}
use Rattle.image_form.specs.Tables.{Tables, Func, Desc}
use Rattle.bs_words.specs.Word.{add_word}
use Rattle.rv_machine.specs.Allocation.{young_from}
use Rattle.rv_machine.specs.Frames.{Frame, descriptor_at}
use Rattle.rv_machine.specs.Hart.{Hart, Placed, with_register}
use Rattle.rv_machine.specs.Loading.{IsRoom}
use Rattle.rv_machine.specs.Memory.{memory_word, write, code_start}
use Rattle.rv_machine.specs.Start.{start}
use Rattle.machine_laws.proofs.Memory.{has_write}
use Rattle.machine_laws.proofs.Starting.{start_sound}
use Rattle.machine_laws.proofs.Words.{with_registers, words_none}
use Rattle.rv_machine.specs.Sound.{IsSound}
use Rattle.moving_laws.specs.Service.{Contents, Knows, IsServiceReady, IsAllocationServed}
use Rattle.moving_laws.specs.Values.{HasFunctions}
use Rattle.moving_laws.specs.Waiting.{WaitingActivation}
use Rattle.moving_laws.proofs.Moving.{allocates}
use Rattle.moving_laws.proofs.Usable.{formed_regions, stack_readable}
use Rattle.moving_laws.proofs.Words.{word_same}

-- the descriptor of a frame of 16 bytes in which nothing is named
abbrev pub small : ℕ → Desc
small after = record { after = after; size = 16; entries = [] }

module _ (image : Tables) (functions : HasFunctions image) (bytes : AllByRecursion (λ b. b < 256) image.bytes) (entry : Func)
    (place after : ℕ) (there : descriptor_at image.descs (code_start + 4 * place + 4) ≡ Some (small after))
    (stack heap : ℕ) (stack_room : IsRoom stack) (heap_room : IsRoom heap) (some : 16 ≤ stack) where
  abbrev first : Hart
  first = start image entry [] stack heap

  -- t0 has the bytes, which are taken off s10, and the return address is in the frame
  abbrev pub asking : Hart
  asking = record (start image entry [] stack heap) {
    pc = code_start + 4 * place;
    registers = with_register 5 16 (with_register 26 0x3800FFF0 (with_register 2 0x3FFFFFE0 (start image entry [] stack heap).registers));
    memory = write (start image entry [] stack heap).memory 0x3FFFFFE8 code_start;
  }

  sound : IsSound asking
  sound =
      let s = start_sound image entry [] stack heap functions.tables bytes words_none stack_room heap_room in
      let one = with_registers first.registers 2 0x3FFFFFE0 s.registers (omega arith) in
      let two = with_registers (with_register 2 0x3FFFFFE0 first.registers) 26 0x3800FFF0 one (omega arith) in
      let three = with_registers (with_register 26 0x3800FFF0 (with_register 2 0x3FFFFFE0 first.registers)) 5 16 two (omega arith) in
      record {
        image = s.image;
        registers = three;
        memory = has_write _ first.memory 0x3FFFFFE8 code_start s.memory;
        stack = s.stack;
        heap = s.heap;
        apart = s.apart;
      }

  return_word : memory_word asking.memory 0x3FFFFFE8 ≡ code_start
  return_word =
      let s = start_sound image entry [] stack heap functions.tables bytes words_none stack_room heap_room in
      word_same first.memory 0x3FFFFFE8 code_start (formed_regions _ first.memory s.memory)
      (stack_readable image heap (0x3FFFFFF0 - stack) first.memory s.memory 0x3FFFFFE8 refl (let r = stack_room.most in omega (arith, some, r)) (omega arith))
      (omega arith)

  abbrev frame : Frame
  frame = record { at = 0x3FFFFFE0; desc = record { after = after; size = 16; entries = [] } }

  abbrev activation : WaitingActivation
  activation = record { back = code_start; count = 0; slot = λ k. None; tries = [] }

  abbrev holds : Contents
  holds = record {
    registers = λ r. None;
    waiting = activation ∷ [];
    traps = [];
    last = 0x3FFFFFF0;
    blocks = record { count = 0; size = λ k. 0; header = λ k. None; cell = λ k j. None };
    static = λ x. None;
  }

  knows : Knows [] asking (frame ∷ []) holds (code_start + 4 * place + 4)
  knows = record {
    sound = sound;
    old = record { inside = tt; apart = tt };
    sp_low = omega (arith, some);
    sp_high = omega arith;
    chain = (
      λ e. omega (arith, e),
      there,
      refl,
      record {
        low = omega (arith, some);
        even = refl;
        size_even = refl;
        size_least = omega arith;
        high = omega arith;
        registers = inl refl;
        entries = λ e i. absurd i;
      },
      (let w = return_word in omega (arith, w)),
      return_word,
    );
    in_registers = record { register = λ r v e. absurd (cc); known = λ r v e. absurd (cc) };
    waits = (
      record {
        room = omega arith;
        back = return_word;
        slot = λ k v l. absurd (omega (arith, l));
        known = λ k v l. absurd (omega (arith, l));
        value = λ k v l. absurd (omega (arith, l));
        named = λ e i. absurd i;
      },
      tt,
    );
    traps = refl;
    stand = record {
      count = refl;
      sizes = λ k l. absurd (omega (arith, l));
      header = λ k w l. absurd (omega (arith, l));
      cell = λ k j v l. absurd (omega (arith, l));
      known = λ k j v l. absurd (omega (arith, l));
    };
    settled = record { header = λ k l. absurd (omega (arith, l)); cell = λ k j w v l. absurd (omega (arith, l)) };
    statics = record { cell = λ x v e. absurd (cc); kind = λ x v e. absurd (cc); known = λ x v e. absurd (cc); place = λ x v e. absurd (cc) };
  }

  ready : IsServiceReady asking (young_from asking) [] frame (λ r. None)
  unfolding add_word
  ready = record {
    functions = functions;
    from_even = refl;
    from_low = omega arith;
    rises = refl;
    heads = tt;
    named = record { value = λ r v e. absurd (cc); named = λ r i. absurd i };
    plain = λ r i. absurd i;
    no_s10 = refl;
  }

  pub allocates_here : (plan : List Placed → List ℕ) → IsAllocationServed plan asking frame [] holds
  allocates_here plan = allocates asking [] frame [] holds knows plan refl ready (omega arith)
