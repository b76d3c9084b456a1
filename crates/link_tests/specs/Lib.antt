pub mod SoundAmong
