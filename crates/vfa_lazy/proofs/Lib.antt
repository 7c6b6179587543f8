mod BlockEnds
mod OneAnswer
mod Told
