-- Static data of eight bytes, and after it a list of one: the laws ask for nothing that such data lacks, and the byte is loaded.
use Rattle.std.proofs.Common.{◌≡◌, ℕ, zero, suc, ◌+◌, ◌-◌, ◌/◌, ◌%◌, ◌<◌, ◌≤◌, ◌⊎◌, inl, inr, false, List, [], ◌∷◌, length, map, Some, None, Ok, slice_get, refl, ap, arith, ◌∙◌, sym, subst, ⊎_elim}
use Rattle.std.specs.List.{AllByRecursion, Contains}
use Rattle.std.proofs.lemmas.List.Elements.{All-nil, All-cons}
use Rattle.bs_words.specs.Fits.{data_start}
use Rattle.bs_words.specs.Memory.{InStatic, Memory, StaticList, cell_at, value_in_cell}
use Rattle.bs_words.specs.Memory as memory
use Rattle.bs_words.specs.declared.types.Chunk.TheVariants as chunk
use Rattle.bs_words.specs.declared.values.Value.{Value}
use Rattle.bs_words.specs.declared.values.Value.TheVariants.{Word}
use Rattle.image_form.specs.Tables.{Func, Tables}
use Rattle.rv_machine.specs.Loading.{IsRoom}
use Rattle.rv_machine.specs.Relocation.{root_addresses}
use Rattle.rv_machine.specs.Run.{Schedule}
use Rattle.rv_machine.specs.Sound.{AllWords}
use Rattle.rv_machine.specs.Start.{data_region, start_memory}
use Rattle.moving_laws.specs.Stands.{AmongNumbers, StaticsStand}
use Rattle.moving_laws.specs.Values.{HasFunctions, IsKnown, IsStill, value_word}
use Rattle.moving_laws.specs.Words.{held_word}
use Rattle.lin_machine.specs.Contents.{statics_of}
use Rattle.lin_machine.specs.Moments.{AtEntry}
use Rattle.lin_machine.specs.Statics.{StaticsLie}
use Rattle.lin_machine.proofs.Beginning.{at_start, start_fixed, start_view}
use Rattle.bs_words.specs.declared.types.Comp.{Comp}
use Rattle.bs_words.specs.declared.types.Comp.TheVariants as comp
use Rattle.bs_words.specs.declared.types.Loc.TheVariants as loc
use Rattle.bs_words.specs.declared.types.Ret.TheVariants as ret
use Rattle.bs_words.proofs.Lists.{none_in}
use Rattle.rv_emit_rules.specs.Emitted.{part_of_line}
use Rattle.rv_layout_rules.specs.declared.form.Form.TheVariants.{Near}
use Rattle.lin_ir.specs.Formed.{IsLocation, NamesLabel, formed_op, goes_to, is_colour, is_home, pushes, spare}
use Rattle.lin_ir.specs.Meaning.{Locations, NamedAt, step}
use Rattle.lin_ir.specs.declared.lin.Lin.{Lin}
use Rattle.lin_ir.specs.declared.lin.Line.{Line}
use Rattle.lin_ir.specs.declared.lin.LinOp.TheVariants as lin
use Rattle.lin_ir.specs.declared.lin.Spot.{Spot}
use Rattle.mach_ir.specs.Forms.{stores as stores_form}
use Rattle.mach_ir.specs.Runs.{ActivationSetting, entry_around}
use Rattle.mach_ir.specs.Seats.{anywhere}
use Rattle.mach_ir.specs.Walks.{other}
use Rattle.mach_ir.specs.declared.op.Access.TheVariants as access
use Rattle.mach_ir.specs.declared.op.Calling.TheVariants as calling
use Rattle.mach_ir.specs.declared.op.External.{External}
use Rattle.mach_ir.specs.declared.op.Op.TheVariants as op
use Rattle.rv_isa.specs.declared.instr.Instr.TheVariants.{Store}
use Rattle.rv_isa.specs.declared.instr.StoreWidth.TheVariants.{Sb}
use Rattle.rv_machine.specs.Hart.{Placed}
use Rattle.lin_machine.specs.Follows.{FollowsStep}
use Rattle.lin_machine.specs.Relation.{Below, Laid, Within, nothing_below}
use Rattle.lin_machine.specs.View.{Fixed, View, IsInstructionAt}
use Rattle.line_stands.specs.Lines.{LineStands, Nowhere}
use Rattle.line_stands.specs.Parts.{PartStands}
use Rattle.line_values.specs.Followed.{plain_store}
use Rattle.line_values.proofs.Following.{plain_followed}
use Rattle.line_values.proofs.Statics.{first_at, is_in}
use Rattle.line_values.proofs.Example.{no_names, no_frame}

abbrev whole : StaticList
whole = record { start = 0x10000000; size = 8; cells = Word 0 ∷ [] }

abbrev cut : StaticList
cut = record { start = 0x10000008; size = 1; cells = Word 7 ∷ [] }

abbrev pub one_byte : Memory
one_byte = record { blocks = []; statics = whole ∷ cut ∷ []; roots = [] }

-- the byte is loaded, and the word of 8 bytes there is none
pub byte_loaded : memory.loaded chunk.U8 one_byte (Word 0x10000008) ≡ Ok (Word 7)
byte_loaded = refl

pub no_word : cell_at one_byte 8 (Word 0x10000008) ≡ None
no_word = refl

-- its cells
module _ (y : ℕ) (v : Value) where
  abbrev IsOne : Type 0
  IsOne = ((y ≡ 0x10000000) × (v ≡ Word 0)) ⊎ ((y ≡ 0x10000008) × (v ≡ Word 7))

  by_index : (index : ℕ) (l : StaticList) → slice_get (whole ∷ cut ∷ []) index ≡ Some l → l.start ≤ y → y + 1 ≤ l.start + l.size → y % 8 ≡ 0 →
      v ≡ value_in_cell one_byte (InStatic (0 + index) ((y - l.start) / 8)) → IsOne
  by_index zero l e low high even is =
      let same : whole ≡ l = cc in
      let start : 0x10000000 ≡ l.start = ap (λ (k : StaticList). k.start) same in
      let size : 8 ≡ l.size = ap (λ (k : StaticList). k.size) same in
      let first : (y - l.start) / 8 ≡ 0 = omega (arith, start, size, low, high) in
      inl (omega (arith, start, size, low, high, even), is ∙ ap (λ i. value_in_cell one_byte (InStatic 0 i)) first)
  by_index (suc zero) l e low high even is =
      let same : cut ≡ l = cc in
      let start : 0x10000008 ≡ l.start = ap (λ (k : StaticList). k.start) same in
      let size : 1 ≡ l.size = ap (λ (k : StaticList). k.size) same in
      let first : (y - l.start) / 8 ≡ 0 = omega (arith, start, size, low, high) in
      inr (omega (arith, start, size, low, high, even), is ∙ ap (λ i. value_in_cell one_byte (InStatic 1 i)) first)
  by_index (suc (suc index)) l e low high even is = absurd (cc)

  pub cells_are : statics_of one_byte y ≡ Some v → IsOne
  cells_are e =
      let f = first_at one_byte y v e in
      let r = is_in 0 (whole ∷ cut ∷ []) y f.cell f.there in
      by_index r.index r.list r.there r.low r.high f.even (f.is ∙ ap (value_in_cell one_byte) r.is)

module _ (image : Tables) (bytes : image.bytes ≡ 0 ∷ 0 ∷ 0 ∷ 0 ∷ 0 ∷ 0 ∷ 0 ∷ 0 ∷ 7 ∷ []) (no_roots : image.roots ≡ []) where
  count : length image.bytes ≡ 9
  count = ap length bytes

  none_among : (x : ℕ) → AmongNumbers x (root_addresses image) → ⊥
  none_among x i = subst (λ rs. AmongNumbers x (map (λ offset. data_start + offset) rs)) no_roots i

  pub lies : StaticsLie image one_byte
  lies = record {
    lists = (omega arith, (refl, omega arith, omega arith), (omega arith, (refl, omega arith, omega arith), tt));
    ends = (let c = count in omega (arith, c));
    root = λ x e. absurd (cc);
    roots = λ x i. absurd (none_among x i);
  }

  module _ (stack heap : ℕ) where
    first_word : held_word (start_memory image stack heap) 0x10000000 ≡ 0
    unfolding data_region
    first_word = subst (λ bs. held_word (start_memory (record image { bytes = bs }) stack heap) 0x10000000 ≡ 0) (sym bytes) refl

    -- the machine has the byte in the word in which its data end
    cut_word : held_word (start_memory image stack heap) 0x10000008 ≡ 7
    unfolding data_region
    cut_word = subst (λ bs. held_word (start_memory (record image { bytes = bs }) stack heap) 0x10000008 ≡ 7) (sym bytes) refl

    pub stands : StaticsStand image [] (start_memory image stack heap) (root_addresses image) (statics_of one_byte)
    stands = record {
      cell = λ y v e. ⊎_elim
          (λ p. ap (held_word (start_memory image stack heap)) p.0 ∙ first_word ∙ ap (value_word image []) (sym p.1))
          (λ p. ap (held_word (start_memory image stack heap)) p.0 ∙ cut_word ∙ ap (value_word image []) (sym p.1))
          (cells_are y v e);
      kind = λ y v e. inr (⊎_elim (λ p. subst IsStill (sym p.1) tt) (λ p. subst IsStill (sym p.1) tt) (cells_are y v e), none_among y);
      known = λ y v e. ⊎_elim (λ p. subst (IsKnown image 0) (sym p.1) tt) (λ p. subst (IsKnown image 0) (sym p.1) tt) (cells_are y v e);
      place = λ y v e.
          let c = count in
          ⊎_elim
          (λ p. let q = p.0 in (omega (arith, q), omega (arith, q), omega (arith, q, c)))
          (λ p. let q = p.0 in (omega (arith, q), omega (arith, q), omega (arith, q, c)))
          (cells_are y v e);
    }

  -- and so a run begins
  pub begins_so : (functions : HasFunctions image) (all : AllByRecursion (λ b. b < 256) image.bytes) (schedule : Schedule) (func : Func) (args : List ℕ)
      (words : AllWords args) (few : length args ≤ 16) (stack heap : ℕ) (stack_room : IsRoom stack) (heap_room : IsRoom heap) (place : ℕ)
      (answers : List ℕ) →
      AtEntry (start_fixed image functions all schedule func args words few stack heap stack_room heap_room place answers)
      (start_view image functions all schedule func args words few stack heap stack_room heap_room place answers) [] place (map Word args) one_byte
      nothing_below
  begins_so functions all schedule func args words few stack heap stack_room heap_room place answers =
      at_start image functions all schedule func args words few stack heap stack_room heap_room place answers (whole ∷ cut ∷ []) [] (stands stack heap) lies

-- ---- a line that stores into the byte

-- a1 has the address, and a0 what is stored
abbrev from : Spot
from = record { loc = loc.Machine 10; comp = comp.Int }

abbrev to : Spot
to = record { loc = loc.Machine 11; comp = comp.Int }

abbrev puts : Line
puts = record { op = lin.Op (op.Access (access.Store chunk.U8 0)); args = to ∷ from ∷ []; results = [] }

abbrev one : Lin
one = record { name = []; params = []; result = ret.Unit; slots = 0; code = puts ∷ [] }

module _ (s : Fixed) (at : ℕ) (only : IsInstructionAt s at (Store Sb 11 10 0)) where
  abbrev laid : Laid
  laid = record { part = λ n. at + (1 - n); frame = 0; saves = false; slots = 0; handler = λ l. 0; even = refl; room = omega arith }

  abbrev place : ActivationSetting
  place = record { setting = record { end = 0x10000009; symbol = λ name. None; parameters = [] }; below = 0; frame = 0 }

  part : PartStands s no_names (at + (1 - 1)) (at + (1 - 0)) (part_of_line 0 no_frame None puts)
  part =
      let e : at ≡ at + (1 - 1) = omega arith in
      record {
        forms = Near ∷ [];
        has = (((moved e).there, (moved e).fits, tt), tt);
        reach = (omega arith, tt);
        past = omega arith;
      }
    where
      moved : at ≡ at + (1 - 1) → IsInstructionAt s (at + (1 - 1)) (Store Sb 11 10 0)
      moved e = subst (λ z. IsInstructionAt s z (Store Sb 11 10 0)) e only

  line_stands : LineStands s laid no_names one place.setting Nowhere [] no_frame None puts []
  line_stands = record {
    part = part;
    names = record {
      label = λ l i. absurd (none_in _ i);
      within = λ l i. absurd (none_in _ i);
      handler = λ l. refl;
      symbol = λ name v e. absurd (cc);
      external = λ row e. absurd (no_external row e.line e.among e.frame e.is);
    };
    frame = refl;
    saves = refl;
    slots = refl;
    among = (0, omega arith, refl);
    formed = formed_op stores_form;
    offset = omega arith;
    args = All-cons (λ (p : Spot). IsLocation one p.loc) to (from ∷ []) (is_home (is_colour (1, omega arith, refl)))
        (All-cons (λ (p : Spot). IsLocation one p.loc) from [] (is_home (is_colour (0, omega arith, refl)))
        (All-nil (λ (p : Spot). IsLocation one p.loc)));
    results = All-nil (λ (p : Spot). IsLocation one p.loc);
    operand_seats = anywhere;
    result_seats = anywhere;
    named = λ l i. absurd (no_label l i);
    handlers = λ l i. absurd (none_in _ i);
    spare = record { reads = λ t i. no_spare t i; on = λ t i l. absurd l; aside = λ e l i d. d };
  }
    where
      no_external : (row : External) (line : Line) → Contains (puts ∷ []) line → (frame : _) →
          line.op ≡ lin.Op (op.Calling (calling.External row frame)) → ⊥
      no_external row line (zero, l, e) frame is =
          let same : puts.op ≡ lin.Op (op.Calling (calling.External row frame)) = ap (λ (x : Line). x.op) e ∙ is in absurd (cc)
      no_external row line (suc k, l, e) frame is = omega (arith, l)

      no_label : (l : ℕ) → NamesLabel l puts.op → ⊥
      no_label l (goes_to (other i)) = elim i [ ]
      no_label l (pushes e) = absurd (cc)

      no_spare : (t : Comp) → Contains (to ∷ from ∷ []) (record { loc = spare; comp = t }) → ⊥
      no_spare t (zero, l, e) = let same : loc.Machine 11 ≡ loc.Machine 5 = ap (λ (x : Spot). x.loc) e in absurd (cc)
      no_spare t (suc zero, l, e) = let same : loc.Machine 10 ≡ loc.Machine 5 = ap (λ (x : Spot). x.loc) e in absurd (cc)
      no_spare t (suc (suc k), l, e) = omega (arith, l)

  -- it is followed
  pub put : (named : NamedAt) (entry : ℕ → ℕ) (c : Below) (v : View) (young : List Placed) (held : Locations) → v.place ≡ at →
      Within s laid v young 0 held (entry_around one_byte) c →
      FollowsStep 1 s laid Nowhere entry c v (step place named one (record { rest = puts ∷ []; file = held; around = entry_around one_byte }))
  unfolding part line_stands
  put named entry c v young held e within =
      plain_followed s laid no_names one place named Nowhere entry c no_frame None [] puts plain_store held (entry_around one_byte) v line_stands refl
      (young, held, record { others = λ l n. refl; spare_too = λ b. absurd b }, record { place = omega (arith, e); within = within })
