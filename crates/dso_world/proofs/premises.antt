-- What a client's core and the server's are to know of a lawful journal of sound code: that a client's entries follow it,
-- that sizes are kept, that a need that is met has its reply, that what comes fits.
pub mod OwnRun
pub mod SoundPrograms
pub mod Sizes
pub mod WhatComes
