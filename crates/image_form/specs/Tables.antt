-- The tables of an image, without where they lie in memory.
use Rattle.std.specs.Prelude.{ℕ, List, map}
use Rattle.bs_words.specs.declared.types.Comp.{Comp}
use Rattle.bs_words.specs.declared.types.Ret.{Ret}
use Rattle.bs_words.specs.Contents.{contents}
use Rattle.bs_words.specs.External.{External}
use Rattle.image_form.specs.declared.image.FuncRow.{FuncRow}
use Rattle.image_form.specs.declared.image.SymRow.{SymRow}
use Rattle.image_form.specs.declared.image.ExtRow.{ExtRow}
use Rattle.image_form.specs.declared.image.DescRow.{DescRow}
use Rattle.image_form.specs.declared.image.Image as declared

pub record Func : Type 0 where
  pub name : List ℕ
  pub offset : ℕ
  pub words : ℕ
  pub frame : ℕ
  pub params : List Comp
  pub result : Ret

pub record Sym : Type 0 where
  pub name : List ℕ
  pub offset : ℕ

pub record Desc : Type 0 where
  pub after : ℕ
  pub size : ℕ
  pub entries : List ℕ

pub record Tables : Type 0 where
  pub version : ℕ
  pub funcs : List Func
  pub code : List ℕ
  pub bytes : List ℕ
  pub syms : List Sym
  pub roots : List ℕ
  pub extcs : List External
  pub descs : List Desc

-- ---- what the code's types hold

abbrev pub func : FuncRow → Func
func f =
    record
    { name = f.name; offset = f.offset; words = f.words; frame = f.frame; params = contents f.params; result = f.result }

abbrev pub sym : SymRow → Sym
sym s = record { name = s.name; offset = s.offset }

abbrev pub ext : ExtRow → External
ext e = record { name = e.name; params = contents e.params; result = e.result }

abbrev pub desc : DescRow → Desc
desc d = record { after = d.after; size = d.size; entries = contents d.entries }

abbrev pub tables : declared.Image → Tables
tables image = record {
  version = image.version;
  funcs = map func (contents image.funcs);
  code = contents image.code;
  bytes = contents image.bytes;
  syms = map sym (contents image.syms);
  roots = contents image.roots;
  extcs = map ext (contents image.extcs);
  descs = map desc (contents image.descs);
}

-- ---- names

abbrev pub func_names : List Func → List (List ℕ)
func_names funcs = map (λ (f : Func). f.name) funcs

abbrev pub sym_names : List Sym → List (List ℕ)
sym_names syms = map (λ (s : Sym). s.name) syms
