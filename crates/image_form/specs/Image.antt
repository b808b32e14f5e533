-- The rules that each image keeps, and the one spelling of an image in bytes.
--
-- What the compiler writes is less than what an image may hold: that `caml_bound_error` is the first
-- symbol, and that external entries come in the order of first use, are no rules. An image with an empty
-- SYMS is read and run.
use Rattle.std.specs.Prelude.{◌≡◌, ◌≢◌, ⊤, ℕ, ◌+◌, ◌*◌, ◌%◌, ◌^◌, ◌<◌, ◌≤◌, List, [], ◌∷◌, ◌++◌, length, map, ◌⊎◌, codes, cond, ◌==◌}
use Rattle.bs_words.specs.Fits.{data_limit}
use Rattle.bs_words.specs.Symbol.{IsSymbol}
use Rattle.std.specs.List.{flat_map, AllByRecursion, AllPairs}
use Rattle.std.specs.Int.{Width, w16, w32, to_le_bytes}
use Rattle.bs_words.specs.External.{External}
use Rattle.bs_words.specs.declared.types.Comp.{Comp}
use Rattle.bs_words.specs.declared.types.Comp.TheVariants.{Int, Val, Addr, Float}
use Rattle.bs_words.specs.declared.types.Ret.{Ret}
use Rattle.bs_words.specs.declared.types.Ret.TheVariants as returns
use Rattle.image_form.specs.declared.image.Image as declared
use Rattle.image_form.specs.Tables.{Func, Sym, Desc, Tables, tables, func_names, sym_names}

-- ---- words of the rules

-- P holds of the first element, if there is one
abbrev pub First : {A : Type 0} → (A → Type 0) → List A → Type 0
First P [] = ⊤
First P (x ∷ xs) = P x

-- R holds of each element and the next
abbrev pub EachNext : {A : Type 0} → (A → A → Type 0) → List A → Type 0
EachNext R [] = ⊤
EachNext R (x ∷ xs) = First (R x) xs × EachNext R xs

-- ---- what every image has

-- the words with which the code of each compiled image begins: the return service, and then the uncaught
-- raise
abbrev pub stub : List ℕ
stub = 0x00000393 ∷ 0x00000073 ∷ 0x00100393 ∷ 0x00000073 ∷ []

abbrev pub stub_words : ℕ
stub_words = length stub

-- the bytes of code before the first place that a call can return to: those of the stub, and a word
abbrev pub first_return : ℕ
first_return = 4 * stub_words + 4

-- the most bytes of a section's body
abbrev pub table_limit : ℕ
table_limit = 67108864

abbrev pub code_limit : ℕ
code_limit = 268369920

-- ---- the spelling: numbers are little-endian

unfoldable pub le16 : ℕ → List ℕ
le16 n = to_le_bytes w16 n

unfoldable pub le32 : ℕ → List ℕ
le32 n = to_le_bytes w32 n

-- The size, the number of entries and the entries of a descriptor have 16 bits in version 1, and 32 in
-- version 2.
abbrev pub entry_width : ℕ → Width
entry_width version = cond (version == 1) w16 w32

abbrev pub entry_limit : ℕ → ℕ
entry_limit version = cond (version == 1) (2 ^ 16) (2 ^ 32)

unfoldable pub le_entry : ℕ → ℕ → List ℕ
le_entry version n = to_le_bytes (entry_width version) n

-- the byte of a type; no image has the last
abbrev pub comp_byte : Comp → ℕ
comp_byte Int = 0
comp_byte Val = 1
comp_byte Addr = 2
comp_byte Float = 4

abbrev pub ret_byte : Ret → ℕ
ret_byte returns.Unit = 3
ret_byte (returns.Comp c) = comp_byte c

-- a name after its length
unfoldable pub name_bytes : List ℕ → List ℕ
name_bytes name = le16 (length name) ++ name

-- the types of parameters after their number
unfoldable pub params_bytes : List Comp → List ℕ
params_bytes params = length params ∷ map comp_byte params

unfoldable pub func_bytes : Func → List ℕ
func_bytes f =
    name_bytes f.name
    ++ (le32 f.offset
    ++ (le32 f.words ++ (le32 f.frame ++ (params_bytes f.params ++ ret_byte f.result ∷ []))))

unfoldable pub sym_bytes : Sym → List ℕ
sym_bytes s = name_bytes s.name ++ le32 s.offset

unfoldable pub ext_bytes : External → List ℕ
ext_bytes e = name_bytes e.name ++ (params_bytes e.params ++ ret_byte e.result ∷ [])

unfoldable pub desc_bytes : ℕ → Desc → List ℕ
desc_bytes version d =
    le32 d.after
    ++ (le_entry version d.size ++ (le_entry version (length d.entries) ++ flat_map (le_entry version) d.entries))

-- the number of rows, and the rows
unfoldable pub table_bytes : {A : Type 0} → (A → List ℕ) → List A → List ℕ
table_bytes row rows = le32 (length rows) ++ flat_map row rows

-- the section's name, the length of its body, and the body
unfoldable pub section_bytes : List ℕ → List ℕ → List ℕ
section_bytes name body = name ++ (le32 (length body) ++ body)

-- the first eight bytes, before the version
abbrev pub magic : List ℕ
magic = codes "CMMRV64\n"

unfoldable pub tables_bytes : Tables → List ℕ
tables_bytes t =
    magic ++ (le32 t.version
    ++ (section_bytes (codes "FUNC") (table_bytes func_bytes t.funcs)
    ++ (section_bytes (codes "CODE") (flat_map le32 t.code)
    ++ (section_bytes (codes "DATA") t.bytes
    ++ (section_bytes (codes "SYMS") (table_bytes sym_bytes t.syms)
    ++ (section_bytes (codes "ROOT") (table_bytes le32 t.roots)
    ++ (section_bytes (codes "EXTC") (table_bytes ext_bytes t.extcs)
    ++ section_bytes (codes "DESC") (table_bytes (desc_bytes t.version) t.descs))))))))

-- The one spelling of an image.
abbrev pub image_bytes : declared.Image → List ℕ
image_bytes image = tables_bytes (tables image)

-- ---- the rules

abbrev pub IsVersion : ℕ → Type 0
IsVersion version = (version ≡ 1) ⊎ (version ≡ 2)

-- what a parameter of a function, and a result, may be
abbrev pub IsParam : Comp → Type 0
IsParam Int = ⊤
IsParam Val = ⊤
IsParam Addr = ⊤
IsParam Float = ⊥

abbrev pub IsResult : Ret → Type 0
IsResult returns.Unit = ⊤
IsResult (returns.Comp Int) = ⊤
IsResult (returns.Comp Val) = ⊤
IsResult (returns.Comp Addr) = ⊥
IsResult (returns.Comp Float) = ⊥

-- the bytes of code before the end of a function
abbrev pub function_end : Func → ℕ
function_end f = f.offset + 4 * f.words

pub record IsFunc (f : Func) : Type 0 where
  pub name : IsSymbol f.name
  pub aligned : f.offset % 4 ≡ 0
  pub frame : f.frame % 16 ≡ 0
  pub frame_fits : f.frame < 2 ^ 32
  pub few : length f.params ≤ 16
  pub params : AllByRecursion IsParam f.params
  pub result : IsResult f.result

-- g begins after the begin of f, and not inside f, which may have no words
pub record IsBehind (f g : Func) : Type 0 where
  pub rises : f.offset < g.offset
  pub apart : function_end f ≤ g.offset

pub record AreFuncs (code_len : ℕ) (funcs : List Func) : Type 0 where
  pub each : AllByRecursion IsFunc funcs
  pub in_order : EachNext IsBehind funcs
  pub in_code : AllByRecursion (λ f. function_end f ≤ code_len) funcs
  pub short : length (table_bytes func_bytes funcs) ≤ table_limit

pub record IsCode (code : List ℕ) : Type 0 where
  pub words : AllByRecursion (λ w. w < 2 ^ 32) code
  pub stub : 4 * stub_words ≤ 4 * length code
  pub short : 4 * length code ≤ code_limit

pub record IsData (bytes : List ℕ) : Type 0 where
  pub begins : 8 ≤ length bytes
  pub short : length bytes ≤ data_limit

pub record IsSym (data_len : ℕ) (s : Sym) : Type 0 where
  pub name : IsSymbol s.name
  pub in_data : s.offset ≤ data_len

pub record AreSyms (data_len : ℕ) (syms : List Sym) : Type 0 where
  pub each : AllByRecursion (IsSym data_len) syms
  pub in_order : EachNext (λ a b. a.offset ≤ b.offset) syms
  pub short : length (table_bytes sym_bytes syms) ≤ table_limit

pub record IsRoot (data_len root : ℕ) : Type 0 where
  pub aligned : root % 8 ≡ 0
  pub in_data : root + 8 ≤ data_len

pub record AreRoots (data_len : ℕ) (roots : List ℕ) : Type 0 where
  pub each : AllByRecursion (IsRoot data_len) roots
  pub rising : EachNext (λ a b. a < b) roots
  pub short : length (table_bytes le32 roots) ≤ table_limit

-- what an argument of an external call, and its result, may be
abbrev pub IsArgument : Comp → Type 0
IsArgument Int = ⊤
IsArgument Val = ⊤
IsArgument Addr = ⊥
IsArgument Float = ⊥

abbrev pub IsExtResult : Ret → Type 0
IsExtResult returns.Unit = ⊤
IsExtResult (returns.Comp c) = IsParam c

pub record IsExt (e : External) : Type 0 where
  pub name : IsSymbol e.name
  pub few : length e.params ≤ 16
  pub params : AllByRecursion IsArgument e.params
  pub result : IsExtResult e.result

pub record AreExtcs (extcs : List External) : Type 0 where
  pub each : AllByRecursion IsExt extcs
  pub differ : AllPairs (λ (x y : External). x ≢ y) extcs
  pub short : length (table_bytes ext_bytes extcs) ≤ table_limit

-- an odd entry is a register, an even one an offset in a frame of that size
abbrev pub IsEntry : ℕ → ℕ → Type 0
IsEntry size e = ((e % 2 ≡ 1) × (e ≤ 63)) ⊎ ((e % 8 ≡ 0) × (e < size))

-- the odd entries come first, and each part rises
abbrev pub IsNextEntry : ℕ → ℕ → Type 0
IsNextEntry a b = ((a % 2 ≡ b % 2) × (a < b)) ⊎ ((a % 2 ≡ 1) × (b % 2 ≡ 0))

pub record IsDesc (version code_len : ℕ) (d : Desc) : Type 0 where
  pub aligned : d.after % 4 ≡ 0
  pub behind_stub : first_return ≤ d.after
  pub in_code : d.after ≤ code_len
  pub size_aligned : d.size % 16 ≡ 0
  pub nonempty : 16 ≤ d.size
  pub size_fits : d.size < entry_limit version
  pub few : length d.entries < entry_limit version
  pub entries : AllByRecursion (IsEntry d.size) d.entries
  pub in_order : EachNext IsNextEntry d.entries

pub record AreDescs (version code_len : ℕ) (descs : List Desc) : Type 0 where
  pub each : AllByRecursion (IsDesc version code_len) descs
  pub rising : EachNext (λ a b. a.after < b.after) descs
  pub short : length (table_bytes (desc_bytes version) descs) ≤ table_limit

-- The lengths of the code and of the data are in bytes.
pub record AreTables (t : Tables) : Type 0 where
  pub version : IsVersion t.version
  pub funcs : AreFuncs (4 * length t.code) t.funcs
  pub code : IsCode t.code
  pub bytes : IsData t.bytes
  pub syms : AreSyms (length t.bytes) t.syms
  pub names_differ : AllPairs (λ (x y : List ℕ). x ≢ y) (func_names t.funcs ++ sym_names t.syms)
  pub roots : AreRoots (length t.bytes) t.roots
  pub extcs : AreExtcs t.extcs
  pub descs : AreDescs t.version (4 * length t.code) t.descs

-- The image keeps every rule. Each image that a call takes or gives does.
abbrev pub IsImage : declared.Image → Type 0
IsImage image = AreTables (tables image)
