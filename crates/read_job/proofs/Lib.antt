mod Endings
mod FaultLines
mod OneAnswer
mod Taking
