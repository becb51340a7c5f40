-- Sound code as a sound program: a thread of sound code keeps, at each point of its run, to what the laws ask of a program.
pub mod LawKeeper
pub mod SoundCode
pub mod WithinShape
