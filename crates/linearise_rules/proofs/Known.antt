-- What crates above use of those below, handed on: a line in crates.txt for each would cost the gate its start.
pub use Rattle.lin_laws.proofs.Forms.{no_spots, same_loc_is}
