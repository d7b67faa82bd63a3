use Rattle.ctw_launch.proofs.Loading.{loaded_shape}
use Rattle.ctw_launch.proofs.SoundStores.{loaded_sound, bytes_kept, entries_kept}
use Rattle.ctw_launch.proofs.SoundLaunch.{launched_sound}
use Rattle.ctw_launch.proofs.laws.launched_stores_are_sound.Goals as goal

pub returns-clause-shape : goal.returns-clause-shape
returns-clause-shape c = loaded_shape

pub returns-clause-loaded : goal.returns-clause-loaded
returns-clause-loaded c = loaded_sound

pub returns-clause-launched : goal.returns-clause-launched
returns-clause-launched c most set s m v small e = launched_sound set m v small most s e

pub returns-clause-memories : goal.returns-clause-memories
returns-clause-memories c set e = bytes_kept set e

pub returns-clause-tables : goal.returns-clause-tables
returns-clause-tables c set e = entries_kept set e
