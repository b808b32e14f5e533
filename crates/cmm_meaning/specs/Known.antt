-- Words of crates below, named again for the crates above.
pub use Rattle.cmm_types.specs.Faults.{is_header}
pub use Rattle.cmm_data.specs.Placement.{data_end, value_of_symbol}
pub use Rattle.cmm_types.specs.Types.{body_type, result_of, Scoped, is_mutable, type_bound, type_named, type_of}
pub use Rattle.cmm_types.specs.Light.{is_light_address}
