-- The forms that loads and stores have (W3C WebAssembly Core 1.0, section 2.4.4, without floats).
use Rattle.std.specs.Prelude.{ℕ, Bool, not, ◌||◌, ◌&&◌, ◌==◌}
use Rattle.ctw_ops.specs.declared.types.Width.{Width}
use Rattle.ctw_ops.specs.declared.types.Width.TheVariants.{W32, W64}

-- 1, 2 or 4 bytes are loaded into 32 bits and 1, 2, 4 or 8 into 64; one with a sign loads fewer bits than there are
abbrev pub is_load : Width → ℕ → Bool → Bool
is_load W32 bytes signed = bytes == 1 || bytes == 2 || (bytes == 4 && not signed)
is_load W64 bytes signed = bytes == 1 || bytes == 2 || bytes == 4 || (bytes == 8 && not signed)

-- the same bytes are stored
abbrev pub is_store : Width → ℕ → Bool
is_store W32 bytes = bytes == 1 || bytes == 2 || bytes == 4
is_store W64 bytes = bytes == 1 || bytes == 2 || bytes == 4 || bytes == 8
